-- Laws of what is made of one cell.
pub mod Steps
pub mod Cells
