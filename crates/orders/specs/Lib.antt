-- The order in which rows are taken, on lists of numbers.
pub mod Taken
