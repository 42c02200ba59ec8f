pub mod Cases
pub mod GridLaws
pub mod RoundLaws
