pub mod Canonical
pub mod Gives
pub mod Lines
pub mod Replies
pub mod Tokens
