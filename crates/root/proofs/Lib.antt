pub mod Definitions
pub mod Squares
pub mod Nearest
pub mod Laws
pub mod Examples
