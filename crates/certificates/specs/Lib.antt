-- The certificate of a table as the code holds it.
pub mod Long
pub mod Held
