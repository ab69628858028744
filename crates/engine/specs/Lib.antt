pub mod Call
pub mod Meaning
pub mod Sorts
pub mod Encode
pub mod WellFormed
pub mod Emit
pub mod Structure
pub mod Reached
