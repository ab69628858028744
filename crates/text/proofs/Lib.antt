mod Digits
pub mod BytesLaws
pub mod NamesLaws
pub mod Write
