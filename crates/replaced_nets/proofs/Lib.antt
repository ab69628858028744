-- Laws of the net replacements of a list, for the proofs of this crate.
pub mod Pairs
