-- Laws of the nodes and reads of a list, for the proofs of this crate and of those that use it.
pub mod Tables
pub mod Cells
pub mod Pairs
pub mod Nodes
pub mod Flags
pub mod Fills
pub mod Words
pub mod Filling
