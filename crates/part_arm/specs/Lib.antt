pub mod Places
pub mod Part
pub mod Inner
