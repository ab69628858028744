pub mod Text
pub mod Shape
pub mod Arguments
