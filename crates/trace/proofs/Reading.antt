-- Laws of the reader: lines of one form, a line by its letter, an activation line, a text that comes in parts.
pub mod OneForm
pub mod ByLetter
pub mod Activations
pub mod InParts
