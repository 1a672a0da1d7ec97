pub mod Lines
pub mod Blocks
pub mod Slots
pub mod Told
pub mod Untold
pub mod LinesLaws
pub mod BlocksLaws
pub mod SlotsLaws
