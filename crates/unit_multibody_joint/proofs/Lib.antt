pub mod Rows
pub mod Answers
pub mod Accepted
pub mod Theorems
pub mod Asked
