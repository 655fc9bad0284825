-- Laws of the lines of a certified table, and of the writes that they come to.
pub mod CertifiedLines
pub mod Written
