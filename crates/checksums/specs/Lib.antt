pub mod Entry
pub mod Equal
pub mod Told
pub mod Untold
pub mod EntryLaws
pub mod EqualLaws
