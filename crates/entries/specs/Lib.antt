-- What the entries for the front end in C promise.
pub mod Entry
pub mod Lists
