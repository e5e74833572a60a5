-- Laws of summary's specs/Steps.antt for the steps that an activation's units and an event take on the tables.
pub mod Units
pub mod Spread
pub mod Event
