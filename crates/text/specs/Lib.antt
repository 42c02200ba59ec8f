pub mod Example
pub mod Gets
pub mod Grammar
pub mod Line
pub mod Text
