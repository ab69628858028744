pub mod Reply
pub mod Entries
pub mod Model
pub mod Printed
