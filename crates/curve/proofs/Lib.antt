pub mod Cases
pub mod CurveLaws
pub mod CurveTheorems
pub mod FractionLaws
