mod Ending
pub mod Marks
