-- Every figure of the tables holds.
pub mod Tests
pub mod Table
pub mod Edges
pub mod Spellings
pub mod Remaps
pub mod Holds
pub mod ByRow
pub mod Agreements
pub mod Disturbances
pub mod Claims
