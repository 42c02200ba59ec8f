-- The differential card and the verdict [02 §11]: what the contracts cite, what the theorems hold it to, and worked cases. Definitions only.
pub mod Inputs
pub mod Slope
pub mod Verdict
pub mod Given
pub mod Gets
pub mod Cases
