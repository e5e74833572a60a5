-- Laws of numbers in columns: their digits, the fields of a line, printed numbers, and numbers printed and read back.
pub mod Digits
pub mod Fields
pub mod Printed
pub mod ReadBack
pub mod LastFour
