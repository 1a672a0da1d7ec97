pub mod Symbol
pub mod Told
pub mod Untold
pub mod SymbolLaws
pub mod RecordsLaws
pub mod BuiltLaws
pub mod ReadingsLaws
