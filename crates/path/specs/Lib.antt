pub mod CardTest
pub mod Path
pub mod Reach
pub mod Ready
