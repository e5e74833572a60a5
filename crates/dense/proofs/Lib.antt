-- Laws of a summary in one table, by the definitions that they are about.
pub mod Dense
pub mod InnerContracts
pub mod Bridge
pub mod Keeping
