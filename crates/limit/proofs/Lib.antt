-- The limit: the counter's laws, the averaging argument of one window, what is carried between windows, the invariant, runs of calls, each row's
-- figures, the claims.
pub mod Exact
pub mod Example
pub mod Scheme
pub mod Window
pub mod Block
pub mod SchemeOf
pub mod Carry
pub mod Recent
pub mod Invariant
pub mod Run
pub mod Answered
pub mod Reachable
pub mod ByRow
pub mod Claims
