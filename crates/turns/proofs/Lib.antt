-- Laws of the turns between reads.
pub mod Turns
pub mod Chains
pub mod Claims
