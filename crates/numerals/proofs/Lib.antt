pub mod Storing
pub mod Digits
pub mod Bytes
pub mod Bits
