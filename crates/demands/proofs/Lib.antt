-- Laws of what rows above another ask for.
pub mod Levels
pub mod Asked
