-- The program: the rewriting of a trace up to its first faulty line, what lies between two reads, and what a whole run writes.
pub mod Rewriting
pub mod Turns
pub mod InnerContracts
pub mod Claims
