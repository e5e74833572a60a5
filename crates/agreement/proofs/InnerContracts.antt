-- Laws of specs/Contracts.antt.
pub mod Walk
pub mod TwoWalks
