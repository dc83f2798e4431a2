pub mod Brent
pub mod Outcome
pub mod Feed
pub mod Run
pub mod Claim
pub mod Examples
