pub mod AssignedLaws
pub mod Evaluating
pub mod RecordLaws
pub mod SatisfiedLaws
