pub mod FactOrder
pub mod Facts
pub mod Grounding
pub mod Shortest
