pub mod CheckingLaws
