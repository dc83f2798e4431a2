pub mod Hex
pub mod Frames
pub mod Lines
pub mod Session
pub mod Moves
pub mod Claims
pub mod Examples
