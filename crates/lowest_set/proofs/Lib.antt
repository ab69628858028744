pub mod Changing
pub mod Finding
