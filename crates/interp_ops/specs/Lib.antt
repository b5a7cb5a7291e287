pub mod Equality
pub mod Lookups
pub mod Making
pub mod Operators
pub mod Orders
pub mod Subscripts
pub mod Truths
