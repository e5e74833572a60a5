-- Laws of the lines taken from a text.
pub mod Lines
pub mod PartLoop
pub mod Runs
pub mod LastLine
