pub mod Rotation
pub mod Poses
