pub mod FileWordsLaws
pub mod Files
pub mod Told
pub mod Untold
pub mod FilesLaws
