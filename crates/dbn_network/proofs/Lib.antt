pub mod AddLaws
pub mod CostLaws
mod Examples
pub mod FeedLaws
pub mod HoldLaws
pub mod LoadLaws
pub mod NetworkLaws
pub mod PassLaws
pub mod RunLaws
pub mod TableLaws
pub mod ValueLaws
pub mod WalkLaws
pub mod WorkedLaws
