pub mod Gaps
pub mod Filler
