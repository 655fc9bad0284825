-- Laws of the load with a raise, and of the search for the largest.
pub mod Raised
pub mod Rounds
pub mod Halving
pub mod RaisedRow
