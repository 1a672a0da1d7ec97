pub mod Order
pub mod Told
pub mod Untold
pub mod OrderLaws
pub mod BuiltLaws
