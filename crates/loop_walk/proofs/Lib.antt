pub mod FirstLaws
pub mod StepLaws
pub mod MetLaws
pub mod WalkingLaws
pub mod NotedLaws
pub mod NamedLaws
