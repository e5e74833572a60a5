-- Laws of the search aids: of marks, and of bounds.
pub mod Bits
pub mod Stores
pub mod Shown
pub mod Searches
pub mod Emptied
pub mod BoundsCapped
pub mod BoundsTop
pub mod BoundsTried
