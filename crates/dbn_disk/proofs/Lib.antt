pub mod Going
pub mod ImageLaws
pub mod PickedLaws
pub mod Present
