pub mod Above
pub mod Parents
pub mod Split
pub mod Numbered
pub mod Answers
pub mod Words
