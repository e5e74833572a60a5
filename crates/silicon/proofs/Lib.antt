-- The claims of the silicon behind a listing, and what they lean on.
pub mod Names
pub mod Pieces
pub mod Standing
pub mod SettingsLine
pub mod ActivationLine
pub mod EventLine
pub mod Alongside
pub mod Claims
