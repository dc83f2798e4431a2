pub mod Tables
pub mod Exp
pub mod Ln
pub mod NotANumber
pub mod Examples
pub mod Laws
pub mod Steps
