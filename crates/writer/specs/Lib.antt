pub mod Told
pub mod Untold
pub mod LentLaws
pub mod AddLaws
