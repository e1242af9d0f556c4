pub mod Causes
pub mod Checkpoints
pub mod Choices
pub mod Rests
