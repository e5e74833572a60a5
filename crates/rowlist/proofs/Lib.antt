-- Laws of the program's runs.
pub mod Runs
pub mod Claims
