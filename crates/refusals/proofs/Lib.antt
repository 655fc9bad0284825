-- Laws of the checks.
pub mod Rows
