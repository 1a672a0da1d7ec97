pub mod Calls
pub mod CallLaws
pub mod Told
pub mod Untold
