pub mod Listening
pub mod Trays
