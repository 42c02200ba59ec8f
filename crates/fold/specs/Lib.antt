pub mod First
pub mod Fold
