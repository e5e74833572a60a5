-- Laws of the spelling of answers: what stands behind an answer.
pub mod StandingLaws
