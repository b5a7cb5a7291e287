pub mod SetLaws
pub mod Passes
pub mod Exactness
pub mod Gathering
pub mod Least
pub mod KeyOrder
pub mod WhySteps
