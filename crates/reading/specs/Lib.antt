-- What is read, as the code holds it: the table, and one record on the way to it.
pub mod Read
pub mod Next
