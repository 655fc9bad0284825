-- The laws that the proofs of the point allowances stand on.
pub mod Lowered
pub mod SmallLoad
pub mod Rivals
pub mod Walked
pub mod Bounding
pub mod AtPlace
pub mod Touched
pub mod Allowed
pub mod Small
