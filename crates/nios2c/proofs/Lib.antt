pub mod Calls
pub mod Unchanged
