pub mod Integer
pub mod Word
