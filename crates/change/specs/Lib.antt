pub mod AnyCard
pub mod Claims
pub mod Edit
pub mod Gets
pub mod Ready
pub mod Replace
pub mod Series
