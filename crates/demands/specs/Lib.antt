-- Rows above another, as lists of C and T, and the loads with them.
pub mod Levels
pub mod Loads
