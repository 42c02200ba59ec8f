pub mod BlockLaws
pub mod CopyLaws
