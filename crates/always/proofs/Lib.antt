mod Shapes
mod Unworked
mod Rows
mod Springs
mod Couplings
mod Parts
pub mod Always
