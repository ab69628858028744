pub mod Verified
pub mod Whole
