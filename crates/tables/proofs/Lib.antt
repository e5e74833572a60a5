-- Laws of the operations on one table.
pub mod Searches
pub mod Shifts
pub mod Scans
