-- Numbers in columns, read and printed; what is printed of them; and what columns were found to hold.
pub mod Bytes
pub mod Numbers
pub mod Output
pub mod Answers
