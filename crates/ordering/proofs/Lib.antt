pub mod Left
pub mod Short
pub mod Answers
pub mod Ready
pub mod Listed
pub mod Said
