pub mod AnswerLaws
pub mod BehindLaws
pub mod ChangeLaws
mod Examples
pub mod KeyedLaws
pub mod NodeLaws
pub mod RowLaws
pub mod ShelfLaws
pub mod StandsLaws
pub mod ValueLaws
