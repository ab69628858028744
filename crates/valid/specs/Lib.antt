pub mod Words
pub mod Theorem
