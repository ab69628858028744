pub mod CursorsLaws
pub mod LiteralLaws
pub mod MadeLaws
pub mod OperationsLaws
pub mod RecordsLaws
