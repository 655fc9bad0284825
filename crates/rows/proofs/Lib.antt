-- Laws of the rows that arrays hold.
pub mod Fronts
