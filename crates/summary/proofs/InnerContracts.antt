-- Laws of specs/Contracts.antt: what the functions do to the tables.
pub mod Holds
pub mod Changes
pub mod Picking
