pub mod AcceptedLaws
pub mod AnswersLaws
pub mod ReadLaws
pub mod TableLaws
