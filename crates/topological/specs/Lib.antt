pub mod Waiting
pub mod State
pub mod Sorted
