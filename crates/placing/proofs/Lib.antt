-- Laws of the placement as the code makes it.
pub mod Considered
pub mod SoFar
pub mod Turn
