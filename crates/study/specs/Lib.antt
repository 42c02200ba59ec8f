-- The meaning of the study's currents: what the contracts cite, what the theorems hold it to, and worked cases. Definitions only.
pub mod Currents
pub mod Gets
pub mod Cases
