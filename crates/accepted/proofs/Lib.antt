pub mod Bounds
pub mod Cells
pub mod Fields
pub mod Laid
pub mod Replacements
pub mod Voids
