-- Laws of starts and of leaps.
pub mod Starts
pub mod StartOf
pub mod FromFirst
pub mod Leaps
