-- What the first bytes of the input tell.
pub mod Front
