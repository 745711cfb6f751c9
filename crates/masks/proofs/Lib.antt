pub mod Laws
pub mod Totals
pub mod Fills
pub mod Answers
