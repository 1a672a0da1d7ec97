pub mod Strings
pub mod StringsLaws
pub mod Told
pub mod Untold
