-- A placement as the code holds it.
pub mod Considered
pub mod Placed
