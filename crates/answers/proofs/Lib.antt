-- A law of refusals.
pub mod Refused
