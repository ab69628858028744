pub mod Values
pub mod Records
