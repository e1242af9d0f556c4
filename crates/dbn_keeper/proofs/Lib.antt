pub mod Bases
pub mod Crashes
mod Examples
pub mod Makings
pub mod Opened
pub mod Steps
