-- Laws of the list services.
pub mod Stages
pub mod Explaining
