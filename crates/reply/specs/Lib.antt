pub mod Reply
pub mod Step
