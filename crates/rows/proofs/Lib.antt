pub mod ExactLaws
pub mod FieldLaws
pub mod InRangeLaws
pub mod TestLaws
