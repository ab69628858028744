pub mod Verify
pub mod Meant
pub mod Reads
