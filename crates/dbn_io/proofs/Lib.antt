pub mod FeedLaws
pub mod LineLaws
pub mod ReadingLaws
pub mod RunLaws
pub mod Writes
