-- Laws of numbers within a byte string.
pub mod FourBytes
pub mod Written
pub mod Lists
