pub mod ListingLaws
pub mod ViewLaws
pub mod LoopLaws
pub mod MadeLaws
pub mod JoinLaws
