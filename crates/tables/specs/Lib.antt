-- One lent table of numbers, of which the first places are used.
pub mod InnerContracts
