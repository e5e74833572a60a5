-- The tracker: its calls and their answers.
pub mod Calls
pub mod Answers
pub mod InnerContracts
pub mod Claims
