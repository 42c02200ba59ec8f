-- The theorems on the differential card, to be read first, and the laws that they rest on.
pub mod Demand1
pub mod Characteristic
pub mod Cases
pub mod GivenLaws
pub mod InputLaws
pub mod SlopeLaws
pub mod VerdictLaws
