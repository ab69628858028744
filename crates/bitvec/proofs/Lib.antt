mod Arithmetic
mod Lemmas
mod WordDivisions
pub mod Divisions
pub mod Laws
pub mod Numbers
pub mod Products
pub mod Shifts
pub mod WordLaws
