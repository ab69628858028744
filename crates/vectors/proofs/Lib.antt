-- Laws of vectors made of elements, of loops and of literals, for the proofs of this crate and of those that use it.
pub mod Tables
pub mod Concat
