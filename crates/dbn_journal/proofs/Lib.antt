pub mod Appends
pub mod Finds
pub mod Makes
pub mod Settled
pub mod Walks
