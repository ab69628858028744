-- Laws of steps with their obligations, for the proofs of this crate and of those that use it.
pub mod Does
