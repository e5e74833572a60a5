-- The silicon behind a listing: what it did, and the limits that hold for it.
pub mod EventLines
pub mod Silicon
pub mod Claims
