-- Laws of a pass.
pub mod Passes
