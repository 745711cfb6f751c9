pub mod Entries
pub mod Tests
mod Finite
pub mod Added
pub mod Addition
pub mod Placed
