-- The laws that the proofs of the fit stand on.
pub mod SmallestOf
pub mod ByPoints
pub mod Counting
pub mod Judging
