pub mod Disk
pub mod Images
pub mod MemCalls
pub mod MemState
pub mod Picked
pub mod Replays
pub mod SoundLaws
pub mod Untold
