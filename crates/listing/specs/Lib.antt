-- The listing of a text, whole and in parts.
pub mod Texts
pub mod Chunks
pub mod Parts
pub mod Claims
pub mod InnerContracts
