pub mod Sums
pub mod Fill
