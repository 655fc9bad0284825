-- Laws of the figures of placed rows.
pub mod Scattered
pub mod CoreNumbers
pub mod Written
pub mod Placed
