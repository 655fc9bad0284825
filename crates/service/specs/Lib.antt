-- What the table service, the bench program and the services on a text promise.
pub mod Table
pub mod Text
