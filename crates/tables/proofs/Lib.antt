-- Laws of the table service: the table that was read, its certificate, and the report; and what an accepted report tells.
pub mod Stages
pub mod Reported
pub mod Listed
pub mod SameReport
pub mod Longest
