-- What the bench program has read, and what it prints.
pub mod Input
pub mod Lines
