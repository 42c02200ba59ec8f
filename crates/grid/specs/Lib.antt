pub mod Cases
pub mod Grid
pub mod Round
