-- Response times and allowances of placed rows, as the code holds them.
pub mod Scattered
pub mod Figured
pub mod Placed
