pub mod FiniteRows
pub mod Folds
pub mod Parts
pub mod Rows
pub mod Sticky
pub mod Zeros
