-- Laws of the code of the order of work.
pub mod Passed
pub mod Verifies
pub mod Said
