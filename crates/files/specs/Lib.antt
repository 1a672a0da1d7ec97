pub mod Files
pub mod Told
pub mod Untold
