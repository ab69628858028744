pub mod Trits
pub mod Rules
pub mod CellRule
pub mod Reads
pub mod Examples
pub mod Refine
pub mod Local
