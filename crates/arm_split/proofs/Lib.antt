pub mod Heads
pub mod Same
pub mod Refused
pub mod Chosen
pub mod Picked
pub mod Passing
pub mod Theorems
pub mod Made
