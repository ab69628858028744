pub mod Verifies
pub mod Said
