pub mod PlacesLaws
pub mod NextPlace
