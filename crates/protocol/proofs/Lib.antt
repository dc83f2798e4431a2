pub mod Lengths
pub mod Going
pub mod Numbers
pub mod Blank
pub mod Programs
pub mod Claims
