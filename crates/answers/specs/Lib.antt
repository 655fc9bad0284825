-- The answers of the services, with document 01's numbers and rows.
pub mod Answer
