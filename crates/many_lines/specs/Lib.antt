pub mod Lines
pub mod Told
pub mod Untold
pub mod AgainLaws
pub mod Bodies
pub mod BodiesLaws
pub mod LinesLaws
pub mod ReadingsLaws
