-- The bound on disturbance and the least counter count.
pub mod Totals
pub mod Least
pub mod Answers
pub mod InnerContracts
pub mod Claims
