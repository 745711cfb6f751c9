mod Worked
mod Rows
mod Moved
mod Added
mod Stepped
mod Rooted
mod Parted
pub mod Theorems
