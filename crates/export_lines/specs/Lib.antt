pub mod Calls
pub mod CallsLaws
pub mod OneLaws
pub mod LastLaws
