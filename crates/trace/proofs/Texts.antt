-- Laws of texts and their lines.
pub mod FirstLine
pub mod Cuts
pub mod NextLine
pub mod KeptBytes
