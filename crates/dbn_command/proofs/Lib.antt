pub mod CanonicalLaws
mod Examples
pub mod Loops
pub mod NameLaws
pub mod Names
pub mod ReadLaws
pub mod Splits
pub mod TokenLaws
pub mod WordLaws
pub mod WriteLaws
