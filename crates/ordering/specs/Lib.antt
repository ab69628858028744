pub mod Words
pub mod Answer
pub mod Says
