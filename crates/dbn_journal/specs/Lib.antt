pub mod Heads
pub mod Making
pub mod Records
pub mod Walk
