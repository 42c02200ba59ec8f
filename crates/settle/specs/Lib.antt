pub mod Cases
pub mod Conditions
pub mod Fed
pub mod Inequalities
pub mod Outcomes
pub mod Ready
pub mod Settle
pub mod Times
