-- Laws of the loop over the carries.
pub mod Loops
