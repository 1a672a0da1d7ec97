pub mod FieldLaws
pub mod EndLineLaws
pub mod ToldLaws
pub mod RecordLaws
pub mod LimitsLaws
pub mod ReadingsLaws
