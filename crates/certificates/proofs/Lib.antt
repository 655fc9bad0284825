-- Laws of the certificate as the code holds it.
pub mod Held
pub mod Promises
