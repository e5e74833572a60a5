-- One line of a trace: what it does and prints, and how a listing is carried from line to line.
pub mod Output
pub mod Steps
pub mod Memory
pub mod InnerContracts
