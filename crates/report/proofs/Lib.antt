pub mod Bits
pub mod Digits
pub mod Example
pub mod Room
