-- Laws of specs/Totals.antt.
pub mod Size
pub mod Total
pub mod Flat
pub mod Bound
