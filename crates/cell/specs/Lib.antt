pub mod Cell
pub mod Mode
pub mod Design
pub mod Role
pub mod Each
pub mod Operation
