-- Laws of what the services promise.
pub mod Determined
pub mod Table
pub mod Accepted
pub mod Copied
pub mod Text
pub mod TextRoundTrip
pub mod SameCertificate
