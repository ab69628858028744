pub mod Slots
pub mod Cells
pub mod Placement
pub mod Cover
