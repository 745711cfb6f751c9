pub mod Leaf
pub mod Changed
pub mod Move
pub mod Moved
