pub mod Building
pub mod Filed
pub mod Gathering
pub mod Halving
pub mod Held
pub mod Placing
pub mod Sorting
pub mod Thinning
