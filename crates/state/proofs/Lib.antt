-- Laws of specs/State.antt.
pub mod PositionAllowed
pub mod StateOf
pub mod Valid
