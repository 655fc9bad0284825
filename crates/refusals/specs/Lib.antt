-- The checks of lists before any climb.
pub mod Checked
