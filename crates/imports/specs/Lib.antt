pub mod Imports
pub mod Listed
pub mod Told
pub mod Untold
pub mod ImportsLaws
pub mod ListedLaws
pub mod MadeListLaws
