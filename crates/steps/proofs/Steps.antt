-- Laws of a line's step.
pub mod LineEnds
pub mod LineNumbers
pub mod ReachedCalls
pub mod CallLines
pub mod SettingsLine
pub mod Lengths
pub mod Alike
