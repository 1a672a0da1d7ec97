pub mod Inlinees
pub mod Told
pub mod Untold
pub mod SourceLineLaws
pub mod InlineesLaws
