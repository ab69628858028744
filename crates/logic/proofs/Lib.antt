pub mod NetLaws
pub mod TableLaws
pub mod WordLaws
