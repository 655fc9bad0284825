-- Document 01 for one core, as definitions, in the order of the document; then what document 02 asks for.
pub mod Returned
pub mod Gather
pub mod Row
pub mod Rank
pub mod Response
pub mod Climb
pub mod Allowance
pub mod Points
pub mod Moved
pub mod Utilisation
pub mod Lists
pub mod Explanation
