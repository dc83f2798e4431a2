pub mod Words
pub mod Wanted
pub mod Tally
