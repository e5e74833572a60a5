-- Laws of specs/Entries.antt.
pub mod Tracked
pub mod Lengths
pub mod Columns
pub mod Picks
pub mod Highest
