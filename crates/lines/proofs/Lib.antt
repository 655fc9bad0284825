-- Laws of the listing's lines.
pub mod Written
