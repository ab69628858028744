pub mod Trit
pub mod Word
pub mod Net
pub mod Table
