pub mod Floats
pub mod Inner
