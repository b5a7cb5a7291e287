pub mod Cut
pub mod Form
pub mod Scan
pub mod Span
