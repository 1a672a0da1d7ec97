pub mod Turn
pub mod Told
pub mod Untold
pub mod TurnLaws
