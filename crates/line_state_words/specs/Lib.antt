pub mod LineWords
pub mod Told
pub mod Untold
pub mod LineWordsLaws
pub mod ReadBackLaws
