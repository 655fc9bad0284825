-- The leap of a climb, and where a row's climb may start.
pub mod Leap
pub mod Start
