pub mod Ending
pub mod Marks
