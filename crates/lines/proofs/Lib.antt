-- Laws of the text that is handed on from line to line.
pub mod Lines
