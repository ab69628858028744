-- Laws of the places of patterns, for the proofs of this crate.
pub mod Patterns
