pub mod Bits
pub mod Ops
pub mod Partial
pub mod Words
