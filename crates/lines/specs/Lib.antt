pub mod Line
pub mod Shape
pub mod Record
