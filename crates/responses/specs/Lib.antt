-- The response times of a set, or the row that misses.
pub mod InTime
pub mod Verdict
