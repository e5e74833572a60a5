-- The exact disturbance with an example, runs of calls, sequences of answers, and what is claimed of them.
pub mod Exact
pub mod Example
pub mod Present
pub mod Run
pub mod Answered
pub mod Reachable
pub mod ByRow
pub mod Claims
