pub mod Filed
pub mod Lent
pub mod Quoted
