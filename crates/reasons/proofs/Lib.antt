-- Laws of the search for the limiting row.
pub mod Next
pub mod Quotient
pub mod Reaching
pub mod Most
pub mod Limiting
pub mod ByRank
