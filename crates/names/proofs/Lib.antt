-- Laws of the table of names, for the proofs of this crate.
pub mod Laws
