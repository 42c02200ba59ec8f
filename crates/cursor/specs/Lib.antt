pub mod Bytes
pub mod Cases
pub mod Digits
pub mod Names
pub mod Pieces
pub mod Spelt
