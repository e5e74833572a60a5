-- Lines of a text, counted.
pub mod Lines
