pub mod Choice
pub mod Unsat
pub mod Script
