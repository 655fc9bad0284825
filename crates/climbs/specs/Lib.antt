-- What the climb is asked on lists of numbers, and what it must come to.
pub mod Ranking
pub mod Placed
pub mod Climb
