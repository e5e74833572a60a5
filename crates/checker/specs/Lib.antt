-- Checking a listing: the first line that departs from what a trace requires.
pub mod Departure
pub mod Comparison
pub mod InnerContracts
pub mod Claims
