pub mod Text
pub mod TextLaws
pub mod PageLaws
pub mod Told
pub mod Untold
