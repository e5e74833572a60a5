-- Laws of specs/Calls.antt: its tests, the calls by their cases, and the definitions that they are made of.
pub mod Tests
pub mod Outcomes
pub mod SameEstimates
