-- A row's bounds as the code holds them.
pub mod Bounds
