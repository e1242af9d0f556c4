pub mod Answering
pub mod Changes
pub mod Entries
pub mod Stands
pub mod Tables
pub mod Values
