pub mod Operations
pub mod Made
pub mod Records
pub mod Literal
pub mod Cursors
