-- Laws of the program: of one step, and of a whole run.
pub mod Lines
pub mod Steps
pub mod Chains
pub mod Wanted
pub mod TraceReads
pub mod Runs
pub mod Linked
pub mod Example
pub mod Claims
