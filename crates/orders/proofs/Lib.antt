-- The law of the order in which rows are taken.
pub mod TakenOf
