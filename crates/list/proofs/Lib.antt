pub mod ExampleLaws
pub mod ListTheorem
pub mod PlaceLaws
