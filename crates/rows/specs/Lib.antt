-- The rows and figures of document 01 that the code's values stand for.
pub mod Held
pub mod Values
