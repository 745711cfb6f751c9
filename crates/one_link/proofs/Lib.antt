pub mod One
pub mod Parents
pub mod Relinked
pub mod Right
pub mod Settles
pub mod Sticky
