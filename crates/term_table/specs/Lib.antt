pub mod Near
pub mod Sorted
