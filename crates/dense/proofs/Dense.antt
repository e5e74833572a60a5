-- Laws of specs/Dense.antt.
pub mod EntriesFrom
pub mod Kept
