pub mod Holding
pub mod Inputs
pub mod Loads
pub mod Passes
pub mod States
pub mod Values
pub mod Walks
pub mod Worked
