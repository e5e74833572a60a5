-- Laws of the memory that a listing is carried in.
pub mod Tracker
pub mod Progress
pub mod Zeros
