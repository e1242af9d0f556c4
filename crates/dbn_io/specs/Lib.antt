pub mod Causes
pub mod LineSoFar
pub mod Memory
pub mod Reading
pub mod Stops
pub mod Window
