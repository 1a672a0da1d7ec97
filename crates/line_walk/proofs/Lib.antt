pub mod AreaLaws
pub mod EveryLaws
pub mod LimitsLaws
pub mod NextLaws
pub mod PositionLaws
pub mod ReadingsLaws
pub mod WalkLaws
