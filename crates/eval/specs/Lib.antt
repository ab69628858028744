pub mod Evaluated
pub mod Evaluable
pub mod Satisfied
