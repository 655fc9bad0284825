-- The largest raise of a row with which another still meets, on lists of C and T.
pub mod Raise
