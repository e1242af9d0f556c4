mod TokenExamples
mod ReadingExamples
pub mod AtomLaws
pub mod DepthLaws
pub mod PrintLaws
pub mod ReadLaws
pub mod ScanLaws
pub mod TreeLaws
pub mod PartLaws
pub mod LinesLaws
