-- Laws of the choice between candidates.
pub mod Among
