pub mod Substitution
pub mod Sticky
pub mod Solved
pub mod Every
pub mod Nothing
pub mod Answers
