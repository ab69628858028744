pub mod Change
pub mod Tree
