pub mod Case
pub mod Cases
pub mod CurveCases
pub mod CurveChanges
pub mod MoreCases
pub mod SideCases
