pub mod Text
pub mod Walk
pub mod Written
