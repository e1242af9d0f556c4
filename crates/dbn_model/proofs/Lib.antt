pub mod ContentLaws
pub mod LastPartLaws
mod LineExamples
pub mod LineLaws
pub mod RunLaws
