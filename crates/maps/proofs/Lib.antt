pub mod Spans
pub mod Ranges
pub mod Both
