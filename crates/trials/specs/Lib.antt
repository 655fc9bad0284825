-- Rows by rank on lists, the allowance of one of them, and a set's rows by rank.
pub mod Trial
pub mod Set
