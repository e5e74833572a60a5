-- Laws of specs/Steps.antt.
pub mod Disturb
pub mod Untracked
pub mod Estimate
pub mod Level
pub mod LevelPicks
pub mod Sources
pub mod Event
