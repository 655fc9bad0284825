-- Laws of bytes written one part behind another, and of the records of the first rows.
pub mod Written
pub mod FirstRows
