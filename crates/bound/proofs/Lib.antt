pub mod Builder
pub mod CellCosts
pub mod Cells
pub mod CostsLaws
