-- Laws of records: what is written reads back, and what is read is what was written.
pub mod Number
pub mod ReadingRecord
pub mod Reading
pub mod Refused
pub mod ReadingBack
pub mod Lengths
pub mod Report
pub mod ReportFigures
pub mod ListBytes
pub mod BytesAnswered
pub mod BytesExplained
pub mod Longest
