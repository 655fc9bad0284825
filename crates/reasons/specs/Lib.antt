-- Why an allowance is not larger, on lists of C, D and T by rank.
pub mod Reason
