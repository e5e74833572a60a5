-- The program: what a run of it is.
pub mod Runs
pub mod Claims
