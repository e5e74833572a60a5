-- Laws of the writer: what its first pass finds, and what its second has written.
pub mod Faults
pub mod Prints
