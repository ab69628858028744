pub mod Shifts
pub mod Parts
