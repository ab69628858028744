-- Laws of loops that run one program for each element, for the proofs of this crate and of those that use it.
pub mod Collect
