pub mod Masks
pub mod Axis
pub mod Starts
pub mod Answers
