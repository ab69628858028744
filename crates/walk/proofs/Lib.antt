-- Laws of the walk, for the proofs of this crate and of those that use it.
pub mod Cells
pub mod Room
pub mod Along
