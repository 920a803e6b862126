pub mod Signs
pub mod Turns
pub mod Meaning
