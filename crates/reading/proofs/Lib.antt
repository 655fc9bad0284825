-- Laws of the records of a table, each by the bytes that are left.
pub mod Bytes
pub mod CoresThere
pub mod CountThere
pub mod RecordThere
pub mod SoFar
