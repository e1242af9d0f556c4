pub mod Envs
pub mod Given
pub mod Indexes
pub mod Prepared
