pub mod States
pub mod Folders
pub mod Opening
