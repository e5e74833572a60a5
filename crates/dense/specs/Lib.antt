-- A summary in one table with a count for every row.
pub mod Dense
pub mod InnerContracts
pub mod Kept
pub mod Facts
