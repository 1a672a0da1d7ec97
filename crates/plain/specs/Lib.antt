pub mod Plain
pub mod Told
pub mod Untold
pub mod WalkLaws
pub mod RecordLaws
pub mod PlainLaws
pub mod ScanLaws
pub mod LastLaws
