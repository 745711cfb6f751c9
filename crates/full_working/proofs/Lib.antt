pub mod Refused
pub mod Cleared
pub mod Exits
pub mod Passed
pub mod Again
pub mod Unused
