pub mod Read
pub mod Answers
pub mod Accepted
pub mod Table
