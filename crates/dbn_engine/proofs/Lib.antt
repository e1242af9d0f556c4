mod Examples
pub mod AllLines
pub mod Asked
pub mod BodyLaws
pub mod Commands
pub mod Firings
pub mod GroupLines
pub mod NetSizes
pub mod ReplyLaws
pub mod Served
pub mod Silent
pub mod Told
