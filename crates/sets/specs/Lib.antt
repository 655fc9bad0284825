-- What the list services have in common.
pub mod Stages
