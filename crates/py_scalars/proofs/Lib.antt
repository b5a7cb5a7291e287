pub mod ExactNumbers
pub mod NumberLemmas
pub mod PlanLemmas
pub mod SearchLemmas
pub mod TextLemmas
pub mod WideText
