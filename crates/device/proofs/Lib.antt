-- Laws of the device's definitions.
pub mod Tests
pub mod Acceptance
pub mod Remap
pub mod Hold
pub mod Victims
pub mod Occurrences
pub mod Claims
