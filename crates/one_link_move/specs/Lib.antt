pub mod Change
pub mod Move
pub mod Promise
pub mod Inner
