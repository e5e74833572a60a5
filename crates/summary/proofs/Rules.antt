-- The rules of specs/Rules.antt, kept by every step.
pub mod Floor
pub mod Order
pub mod Ceiling
pub mod Room
pub mod Sound
