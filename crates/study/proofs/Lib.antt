-- The theorems on the study's currents, to be read first, and the laws that they rest on.
pub mod Demand1
pub mod Theorems
pub mod BothSides
pub mod ReadingLaws
