-- The cores as the code holds them.
pub mod Cores
