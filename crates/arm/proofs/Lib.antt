pub mod Accepted
pub mod Agree
pub mod Edits
pub mod Live
pub mod Relinked
pub mod Shape
pub mod Sized
pub mod Theorems
