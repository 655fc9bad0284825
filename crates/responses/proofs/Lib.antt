-- Laws of the response time question on all rows.
pub mod Answering
pub mod Meeting
pub mod Turn
