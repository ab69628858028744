pub mod First
pub mod Steps
pub mod Reads
pub mod Named
