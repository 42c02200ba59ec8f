pub mod Example
pub mod Header
pub mod List
