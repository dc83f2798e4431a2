pub mod Erfc
pub mod Normal
pub mod NotANumber
pub mod Examples
pub mod Laws
pub mod Steps
