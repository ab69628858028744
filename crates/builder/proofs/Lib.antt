-- Laws of the record that links code and model, for the proofs of this crate and of those that use it.
pub mod Laws
