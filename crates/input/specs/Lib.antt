-- Files, reads of them and runs of reads: what one comes to.
pub mod Files
pub mod AtHand
pub mod Next
pub mod Runs
