pub mod BoolLaws
pub mod FirstLaws
pub mod FoldLaws
