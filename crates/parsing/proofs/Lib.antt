-- Proofs of what is read.
pub mod Judging
pub mod Header
pub mod SoFar
