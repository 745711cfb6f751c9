pub mod Respects
