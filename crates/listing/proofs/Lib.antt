-- Laws of the listing.
pub mod Header
pub mod Decimal
pub mod SystemAllowance
pub mod RowLines
pub mod Longest
