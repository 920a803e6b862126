pub mod Rules
pub mod Running
pub mod Accepted
pub mod Determined
