pub mod Solve
pub mod Inner
