pub mod Blocks
pub mod Link
pub mod Pass
pub mod State
pub mod Answers
pub mod Unused
pub mod Promises
pub mod Inner
