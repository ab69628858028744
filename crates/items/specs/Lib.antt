pub mod Step
pub mod Items
pub mod Marks
