-- Agreement of two trackers: its definitions, what it means for all later calls, and an example.
pub mod Calls
pub mod InnerContracts
pub mod Later
pub mod Answered
pub mod Example
pub mod Claims
