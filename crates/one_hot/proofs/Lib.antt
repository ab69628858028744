-- Laws of the loop over the patterns, and of its literals.
pub mod Loops
pub mod Literals
