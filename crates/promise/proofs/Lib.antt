pub mod Examples
pub mod Reasons
pub mod Numbers
pub mod Fair
pub mod Edits
pub mod Demands
