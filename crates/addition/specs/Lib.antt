pub mod NewLink
pub mod Addition
pub mod Promise
pub mod Inner
