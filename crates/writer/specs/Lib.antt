-- The writer: what it is given and what its answer says. All else is the trace's.
pub mod Answers
