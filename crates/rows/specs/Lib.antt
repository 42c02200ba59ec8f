pub mod InRange
pub mod Tests
