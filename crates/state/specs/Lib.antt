-- The state that the caller lends.
pub mod State
