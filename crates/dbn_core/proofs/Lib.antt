mod Examples
pub mod MoveLaws
pub mod KeptLaws
pub mod ShapedLaws
pub mod FitLaws
pub mod IdLaws
pub mod GoodLaws
pub mod FiringLaws
pub mod SentenceTypes
