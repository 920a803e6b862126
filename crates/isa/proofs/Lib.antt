pub mod Choosing
pub mod Table
pub mod Decoding
