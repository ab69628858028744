pub mod Prog
pub mod Emit
pub mod Builder
pub mod Wp
pub mod Formula
pub mod CellBits
pub mod CellShows
pub mod Kept
