pub mod Served
pub mod Held
