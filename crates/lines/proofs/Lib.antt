pub mod ShapeLaws
pub mod RecordLaws
