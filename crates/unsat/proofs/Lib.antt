pub mod Query
pub mod Unsat
pub mod Script
pub mod Examples
