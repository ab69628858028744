-- Laws of operands, for the proofs of this crate and of those that use it.
pub mod Stores
pub mod Nets
pub mod Numbers
pub mod Part
pub mod WordsLaws
