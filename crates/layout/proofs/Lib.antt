pub mod CardLaws
pub mod RangeLaws
pub mod RowLaws
