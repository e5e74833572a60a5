-- Laws of the spelling: the spelled lines, what a reader can give, and the spelled texts.
pub mod Lines
pub mod Readable
pub mod Texts
pub mod Lengths
