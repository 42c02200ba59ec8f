pub mod Cases
pub mod Curve
pub mod Exact
