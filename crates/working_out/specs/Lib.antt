pub mod Reading
pub mod Loop
pub mod Equations
pub mod WorkingOut
pub mod Obligations
pub mod Order
pub mod Graph
pub mod System
