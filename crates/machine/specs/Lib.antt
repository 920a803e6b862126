pub mod Step
pub mod Calls
pub mod Ends
