-- Document 02, request 2, as definitions: what a text is, what it is as a table, every way to write one, and the text that is written; then what the code's
-- contracts need to speak of what is left of a text.
pub mod Text
pub mod Table
pub mod Forms
pub mod Columns
pub mod Rest
