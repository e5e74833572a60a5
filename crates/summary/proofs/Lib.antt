-- Laws of the summary, by the definitions that they are about.
pub mod Entries
pub mod Steps
pub mod Rules
pub mod Tables
pub mod InnerContracts
pub mod Claims
pub mod Turned
pub mod Kept
