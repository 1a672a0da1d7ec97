pub mod Exports
pub mod InBody
pub mod Told
pub mod Untold
pub mod ExportsLaws
pub mod InBodyLaws
pub mod FoundBodyLaws
