-- Laws of nets and of how they are read, for the proofs of this crate and of those that use it.
pub mod Laws
