pub mod Kept
pub mod Hash
pub mod Table
pub mod Dependents
