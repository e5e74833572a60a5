-- The spelling of answers: what the code's settings last before an answer say. All else is the trace's.
pub mod Answers
