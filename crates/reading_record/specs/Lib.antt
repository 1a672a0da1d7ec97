pub mod Item
pub mod Record
pub mod Told
pub mod Untold
pub mod RecordLaws
