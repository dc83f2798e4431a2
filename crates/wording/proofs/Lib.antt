mod Counts
pub mod Laws
