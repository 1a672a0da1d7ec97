pub mod Reading
pub mod BodiesLaws
pub mod RefusalsLaws
