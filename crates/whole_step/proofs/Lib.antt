mod Links
pub mod Settled
