-- Document 01's worked figures, edges of the tracker's calls, figures of the writer, of loaded remaps, of rows held open, of single
-- rows, of agreement, of the exact disturbance and of the silicon, and what is claimed of them.
pub mod Table
pub mod Edges
pub mod Spellings
pub mod Remaps
pub mod Holds
pub mod ByRow
pub mod Agreements
pub mod Disturbances
pub mod Claims
