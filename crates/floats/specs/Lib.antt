pub mod Operators
pub mod Values
pub mod Wholes
pub mod Digits
