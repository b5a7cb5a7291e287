pub mod Answers
pub mod Exact
pub mod NumberForm
pub mod Plan
pub mod Search
pub mod TextForm
