pub mod Marks
pub mod Visits
pub mod Answer
