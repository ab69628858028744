pub mod Tables
pub mod Counting
pub mod Links
pub mod Ready
pub mod Starting
pub mod Settling
pub mod Turns
