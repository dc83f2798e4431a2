pub mod Exponential
pub mod Logarithm
pub mod Tail
pub mod Roots
pub mod Prices
pub mod Runs
pub mod Offers
pub mod Theorem
