pub mod Gets
pub mod Meets
pub mod Ready
pub mod Refused
pub mod Whole
