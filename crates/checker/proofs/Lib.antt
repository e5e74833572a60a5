-- Laws of the check.
pub mod Comparison
pub mod Cuts
pub mod Checks
pub mod Claims
