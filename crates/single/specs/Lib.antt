pub mod Cases
pub mod Exact
pub mod Parts
pub mod SingleCurrent
