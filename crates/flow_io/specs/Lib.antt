pub mod Causes
pub mod Gathered
pub mod Memory
pub mod Reader
pub mod Reading
pub mod Standard
