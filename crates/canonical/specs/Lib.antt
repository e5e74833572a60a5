-- The one spelling of a trace, what the writer turns away and leaves, and what is claimed of both.
pub mod Spelling
pub mod Writing
pub mod Claims
