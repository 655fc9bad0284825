-- Laws of a table that was read and of its certificate, whatever the table was read from.
pub mod Given
pub mod Stages
pub mod Small
