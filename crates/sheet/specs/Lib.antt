pub mod Again
pub mod Given
pub mod Ready
pub mod Sheet
