-- Laws of rank and of the climb on lists of numbers.
pub mod Gathered
pub mod ByRank
pub mod OrderByRank
pub mod Load
pub mod InLists
pub mod AtRank
pub mod After
pub mod StandByRank
pub mod RowAtRank
pub mod FilledByRank
