-- Laws of what a read comes to, of whether there is more to read, and of runs.
pub mod AtHand
pub mod ReadsOn
pub mod Runs
