pub mod Changed
pub mod Settled
