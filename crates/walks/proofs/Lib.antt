-- The laws that the proofs of the walk stand on.
pub mod Held
pub mod Rounding
pub mod Quotients
pub mod Exceeds
pub mod Lifted
pub mod NewPoints
pub mod Level
pub mod Range
