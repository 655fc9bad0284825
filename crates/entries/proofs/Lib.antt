-- Laws of the entries: lists cut to the rows there can be, lists as bytes, and that each entry's promise determines its result.
pub mod Cut
pub mod RowBytes
pub mod Bytes
pub mod Returned
pub mod Explained
pub mod Lent
