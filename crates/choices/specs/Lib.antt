-- The choice between candidates, as the code holds it.
pub mod Among
