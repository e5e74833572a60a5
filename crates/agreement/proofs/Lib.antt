-- Laws of agreement, and its claims.
pub mod Calls
pub mod InnerContracts
pub mod Alike
pub mod Equal
pub mod Told
pub mod Later
pub mod Example
pub mod Claims
