pub mod AnyLaws
pub mod Low
pub mod Words
pub mod Gathered
pub mod EdgesRead
