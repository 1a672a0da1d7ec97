pub mod Find
pub mod Told
pub mod Untold
pub mod FindLaws
