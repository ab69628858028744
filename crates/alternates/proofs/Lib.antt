-- Laws of the loops over positions and alternates and of the places of alternates, for the proofs of this crate.
pub mod Loops
pub mod Places
