pub mod Finding
pub mod Resting
