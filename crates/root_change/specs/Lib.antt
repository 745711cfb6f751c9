pub mod Root
pub mod Promises
