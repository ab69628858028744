pub mod Bounds
pub mod Nets
pub mod Shape
pub mod Voids
pub mod Laid
pub mod Valid
