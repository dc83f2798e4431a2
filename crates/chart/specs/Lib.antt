pub mod Quotes
pub mod Axis
pub mod Cells
pub mod Build
pub mod Meaning
pub mod Sharing
pub mod Steps
