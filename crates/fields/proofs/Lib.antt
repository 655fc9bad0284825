-- Proofs of what the code finds.
pub mod Begins
pub mod Left
pub mod Separators
pub mod Contents
pub mod SoFar
pub mod NumberFields
pub mod Followed
pub mod LineFields
