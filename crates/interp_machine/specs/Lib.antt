pub mod Classes
pub mod Kinds
pub mod Later
pub mod Meaning
pub mod Symbols
pub mod Walks
