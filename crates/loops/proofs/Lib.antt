pub mod LowestLaws
pub mod Runs
pub mod Orders
pub mod Named
pub mod ByWords
