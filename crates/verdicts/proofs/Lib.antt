pub mod Records
pub mod Offering
pub mod Solver
