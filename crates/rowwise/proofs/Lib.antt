pub mod EndLaws
pub mod LinkLaws
pub mod StartLaws
pub mod StepLaws
pub mod StepsLaws
pub mod SumsLaws
pub mod WorkingLaws
