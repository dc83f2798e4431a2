pub mod Examples
pub mod Passes
pub mod Columns
pub mod Checks
pub mod Sweeps
pub mod Lines
pub mod Laws
