-- The device: refusals, the settings' tests, where a logical row lies, how many units a row is held open, the victims of a row.
pub mod Refusal
pub mod Acceptance
pub mod Remap
pub mod Hold
pub mod Victims
pub mod Claims
