pub mod Loops
pub mod Members
pub mod Parts
pub mod Sizes
pub mod Texts
pub mod Values
