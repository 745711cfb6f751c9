pub mod Numbers
pub mod Links
pub mod Branch
pub mod View
pub mod Words
