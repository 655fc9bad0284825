-- Whether rows fit on a core.
pub mod Fit
pub mod Judged
pub mod Smallest
