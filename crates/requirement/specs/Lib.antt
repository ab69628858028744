pub mod Answered
pub mod Marks
pub mod Requirement3
pub mod Verified
