pub mod NameLists
pub mod Marks
pub mod Scopes
pub mod Faults
pub mod Chart
pub mod Building
