pub mod Asked
pub mod Steps
pub mod Serving
pub mod Obeying
pub mod Saying
pub mod AllLines
pub mod Resting
