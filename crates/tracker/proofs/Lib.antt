-- Laws of the tracker's calls.
pub mod Calls
pub mod Steps
pub mod Claims
