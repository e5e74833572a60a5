-- A trace that is read part by part: what lies between two reads, and what all turns print.
pub mod Turns
pub mod InnerContracts
pub mod Claims
