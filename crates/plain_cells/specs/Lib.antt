pub mod BuiltIns
pub mod Plain
pub mod Run
