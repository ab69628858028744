pub mod Edges
pub mod Run
pub mod Graph
pub mod Is
