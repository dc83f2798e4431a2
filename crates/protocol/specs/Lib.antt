pub mod Hear
pub mod Calls
pub mod Moves
pub mod Turns
pub mod Claims
