pub mod Layout
pub mod Search
pub mod Readings
pub mod Nearest
