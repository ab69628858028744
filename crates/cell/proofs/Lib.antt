pub mod EachLaws
pub mod Modes
pub mod Numbered
