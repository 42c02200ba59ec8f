pub mod Fed
pub mod Linking
