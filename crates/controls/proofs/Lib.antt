-- Laws of controls.
pub mod Laws
