pub mod Turns
pub mod FillLaws
pub mod TurnsLaws
pub mod BodyLines
pub mod BodyLinesLaws
