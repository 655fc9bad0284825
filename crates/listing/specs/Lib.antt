-- Document 01, "The listing", as definitions.
pub mod Listing
