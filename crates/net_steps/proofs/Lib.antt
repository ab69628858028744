-- Laws of the steps, for the proofs of this crate and of those that use it.
pub mod Laws
