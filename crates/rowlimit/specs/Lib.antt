-- The call that gives a row's figure, and what is claimed of it.
pub mod Answers
pub mod Claims
