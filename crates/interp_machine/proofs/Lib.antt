mod ClassLaws
mod RangeLaws
pub mod RunsLaws
pub mod WalkLaws
