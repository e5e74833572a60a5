-- Search aids over a table with a count for every row of the largest bank.
pub mod Marks
pub mod Bounds
