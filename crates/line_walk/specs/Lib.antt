pub mod Meaning
pub mod Next
pub mod Told
pub mod Untold
