-- Laws of the moves.
pub mod Moves
