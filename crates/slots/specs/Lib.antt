pub mod Tells
pub mod Pairs
