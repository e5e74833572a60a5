-- Laws that belong to no one crate's definitions.
pub mod Cases
pub mod Every
pub mod Lists
pub mod Same
pub mod Division
