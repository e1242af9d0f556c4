pub mod Makes
pub mod Clauses
