-- The fields and lines of a text as the code finds them.
pub mod Found
