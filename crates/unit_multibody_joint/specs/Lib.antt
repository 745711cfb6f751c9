pub mod Outcome
pub mod Rows
pub mod Refusals
pub mod Answers
pub mod Lent
