pub mod Card
pub mod Counts
pub mod Fields
pub mod List
pub mod Range
pub mod View
