pub mod Outcome
pub mod Full
pub mod Empty
pub mod Inner
