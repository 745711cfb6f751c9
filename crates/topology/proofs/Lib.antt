pub mod Fitting
pub mod Branch
pub mod Written
pub mod Pass
pub mod Mapped
pub mod Refused
pub mod Above
pub mod Theorems
