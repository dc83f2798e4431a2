pub mod Root
pub mod NotANumber
pub mod Examples
pub mod Laws
pub mod Steps
