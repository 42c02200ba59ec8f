pub mod Cases
pub mod Differentials
pub mod DifferentialCases
pub mod Studies
pub mod TimeCases
pub mod Times
pub mod Version
