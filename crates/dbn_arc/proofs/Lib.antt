pub mod CountLaws
pub mod GuardLaws
pub mod SumLaws
