pub mod Grammar
pub mod Line
pub mod Kept
pub mod Reading
pub mod LineReading
pub mod Blocks
pub mod Examples
