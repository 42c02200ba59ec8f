pub mod Card
pub mod Write
