pub mod CoverLaws
pub mod Laws
