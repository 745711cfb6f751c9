pub mod Above
pub mod Promise
