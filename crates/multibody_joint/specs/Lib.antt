pub mod Joint
pub mod Motion
pub mod Springs
