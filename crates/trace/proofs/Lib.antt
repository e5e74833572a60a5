-- Laws of lines, of columns that hold no byte 10, of records and the reader, of texts; of what private functions promise; and the claims.
pub mod Lines
pub mod Unended
pub mod Records
pub mod Reading
pub mod Texts
pub mod InnerContracts
pub mod Claims
