-- Laws of specs/Calls.antt: its tests, its calls by their cases, and the definitions that they are made of.
pub mod Tests
pub mod SoundTests
pub mod Ready
pub mod Outcomes
pub mod Holds
pub mod VictimsIn
