-- Laws of the search by trial.
pub mod Search
pub mod SetByRank
