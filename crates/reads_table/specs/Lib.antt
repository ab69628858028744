pub mod Table
pub mod Nodes
pub mod Fills
