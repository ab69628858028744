pub mod Voids
pub mod Marks
