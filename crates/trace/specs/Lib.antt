-- The trace: lines and their records, the reader's answer; a text line by line; and what is claimed of the reader.
pub mod Bytes
pub mod Lines
pub mod Records
pub mod Reading
pub mod Texts
pub mod Answers
pub mod InnerContracts
pub mod Claims
