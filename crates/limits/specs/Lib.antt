pub mod Ranges
pub mod Ends
pub mod Checks
pub mod Outcome
pub mod Refusals
