-- The sheets hold, and the versions that the promises shut out.
pub mod Columns
pub mod Test
pub mod Law
pub mod Certificate
pub mod TextCertificate
pub mod Explanation
pub mod Sheets
pub mod ShutOut
pub mod TableShutOut
pub mod ExplanationShutOut
pub mod TextShutOut
