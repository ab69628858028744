pub mod Costs
pub mod Words
