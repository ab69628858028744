-- Laws of packed answers.
pub mod Laws
pub mod WholeLaws
