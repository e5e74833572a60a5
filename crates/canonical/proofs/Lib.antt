-- Laws of the spelling and of the writer, and the claims.
pub mod Spelling
pub mod Writing
pub mod Claims
