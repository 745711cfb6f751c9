pub mod Written
pub mod Decimal
pub mod Bytes
pub mod Read
