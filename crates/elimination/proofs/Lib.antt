pub mod Columns
pub mod Every
pub mod Pivot
pub mod Reduced
pub mod Room
pub mod Rows
pub mod Sticky
