-- Laws of the bound and of the least counter count.
pub mod Totals
pub mod Rooms
pub mod Shares
pub mod Least
pub mod Walk
pub mod Answers
pub mod Claims
