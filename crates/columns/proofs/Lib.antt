-- Laws of numbers in columns and of what is printed.
pub mod Numbers
pub mod Output
