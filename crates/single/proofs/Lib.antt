pub mod Cases
pub mod CurrentLaws
pub mod PartsLaws
pub mod RoundLaws
pub mod ScaleLaws
pub mod ScreenLaws
pub mod SideLaws
