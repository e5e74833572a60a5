-- Laws of specs/InnerContracts.antt.
pub mod Left
pub mod DisturbedIn
pub mod Turned
