-- What contracts say of lent slices, and lists compared.
pub mod Lent
pub mod Same
