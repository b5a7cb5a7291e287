pub mod Classes
pub mod Errors
