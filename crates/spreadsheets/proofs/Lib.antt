-- Laws of the services on a text: what they answer, and when what is lent is always long enough.
pub mod Stages
pub mod Longest
