pub mod Printed
pub mod PrintedLaws
pub mod LineText
pub mod LineTextLaws
