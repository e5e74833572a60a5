-- The listing's laws, by the definitions that they are about; proofs of functions stand in folders of the functions' names.
pub mod Texts
pub mod Chunks
pub mod Parts
pub mod Claims
