pub mod Trace
pub mod History
pub mod Staleness
pub mod Decided
pub mod Order
pub mod Why
pub mod Lawful
