pub mod Cases
pub mod CurveCases
pub mod CurveChanges
pub mod GivenLaws
pub mod MoreCases
pub mod SideCases
