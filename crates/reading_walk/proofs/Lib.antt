pub mod StepLaws
pub mod WalkLaws
pub mod ReadingLaws
