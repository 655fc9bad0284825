-- The steps of an order made in place.
pub mod Putting
pub mod Sorting
