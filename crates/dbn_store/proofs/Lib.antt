mod Examples
pub mod Members
pub mod Replays
pub mod Starts
