-- The quotients of a row at the points of its walk, as lists of numbers.
pub mod Quotients
