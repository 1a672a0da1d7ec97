pub mod Modi
pub mod Told
pub mod Untold
pub mod ModiLaws
