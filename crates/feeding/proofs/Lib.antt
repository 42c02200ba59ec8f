pub mod FedLaws
pub mod LinkLaws
pub mod OverLaws
