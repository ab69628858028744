pub mod Same
pub mod SlotName
