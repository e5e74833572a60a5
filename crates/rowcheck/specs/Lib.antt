-- The program: what it answers, its steps, and what a whole run comes to.
pub mod Answers
pub mod Turns
pub mod InnerContracts
pub mod Example
pub mod Claims
