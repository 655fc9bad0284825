-- The kinds of records by their bytes.
pub mod Kind
