-- Laws of the program's definitions.
pub mod Laws
pub mod Loops
