-- The laws of a line and of what is carried; proofs of functions stand in folders of the functions' names.
pub mod Steps
pub mod Memory
