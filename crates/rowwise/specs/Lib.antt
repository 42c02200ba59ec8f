pub mod Ready
pub mod Sums
pub mod WorkOut
pub mod Working
