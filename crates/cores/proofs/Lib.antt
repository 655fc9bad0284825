-- Laws of the places of a core's rows, as the code holds them.
pub mod Joined
pub mod Held
pub mod Gathered
