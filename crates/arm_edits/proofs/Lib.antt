pub mod Accepted
pub mod Stores
pub mod Agreeing
pub mod Theorems
