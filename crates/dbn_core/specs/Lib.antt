pub mod Moves
pub mod Fire
pub mod Standing
pub mod Group
pub mod Answers
