pub mod Names
pub mod Named
