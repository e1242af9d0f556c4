pub mod FactLaws
pub mod ShortestLaws
