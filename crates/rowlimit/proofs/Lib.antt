-- The call's tests in their order, how large an answer can be, and the claims.
pub mod Tests
pub mod Answers
pub mod Claims
