-- Document 01, "Records" and "Refusal numbers", as definitions; then what document 02 asks for on bytes.
pub mod Number
pub mod Reading
pub mod Report
pub mod ListBytes
pub mod ExplanationBytes
