-- Laws of temporaries and of literals, for the proofs of this crate and of those that use it.
pub mod Temporaries
pub mod Literals
