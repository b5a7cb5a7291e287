pub mod EqualLaws
mod FoundLaws
pub mod IdentityLaws
mod Leaps
pub mod OrderLaws
mod Repeating
pub mod SortLaws
mod UsedLaws
