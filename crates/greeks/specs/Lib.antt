pub mod Deviates
