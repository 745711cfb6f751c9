pub mod Rows
pub mod Damping
