pub mod Cells
pub mod PooledLaws
pub mod Pooled
