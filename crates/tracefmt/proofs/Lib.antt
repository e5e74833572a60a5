-- Laws of the rewriting and of the program's turns.
pub mod Faults
pub mod OneLine
pub mod Lines
pub mod WholePart
pub mod Ends
pub mod Runs
pub mod Chains
pub mod Claims
