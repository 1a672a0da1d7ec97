pub mod Secs
pub mod Run
pub mod Listed
pub mod Demand
pub mod Decided
pub mod Apart
pub mod Joined
pub mod InWords
