-- The rows of a text as the code takes them, one by one.
pub mod Judging
