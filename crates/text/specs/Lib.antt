pub mod Bytes
pub mod Names
