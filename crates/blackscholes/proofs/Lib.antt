pub mod CallOrPut
pub mod Solving
pub mod Theorem
