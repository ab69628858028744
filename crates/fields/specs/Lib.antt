pub mod Field
pub mod Pattern
pub mod Head
pub mod Accepted
