pub mod CellSafe
pub mod Formed
pub mod Safe
pub mod Solve
pub mod Temporaries
pub mod Unique
