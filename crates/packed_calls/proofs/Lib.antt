-- Laws of packed answers.
pub mod Laws
