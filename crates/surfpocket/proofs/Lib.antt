pub mod Cases
pub mod DifferentialCases
pub mod StudyTheorems
pub mod TimeCases
pub mod TimeTheorems
