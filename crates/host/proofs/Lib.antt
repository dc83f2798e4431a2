pub mod Told
pub mod Lending
