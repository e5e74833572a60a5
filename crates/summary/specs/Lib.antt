-- The summary of disturbed rows and the steps on it.
pub mod Entries
pub mod Steps
pub mod Rules
pub mod Tables
pub mod InnerContracts
pub mod Facts
pub mod Ledger
pub mod Kept
pub mod Claims
