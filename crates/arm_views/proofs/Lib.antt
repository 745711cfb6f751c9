pub mod Accepted
pub mod Answers
pub mod Branches
pub mod Views
pub mod Theorems
