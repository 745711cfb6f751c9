pub mod Rows
pub mod Springs
pub mod Couplings
pub mod Words
