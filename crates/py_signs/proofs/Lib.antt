pub mod Spellings
pub mod SignLaws
pub mod Spans
