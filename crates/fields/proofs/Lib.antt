pub mod AcceptedLaws
pub mod Laws
