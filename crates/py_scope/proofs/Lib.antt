pub mod Going
pub mod MarkForms
pub mod NodeLaws
pub mod ParamLaws
pub mod PlaceLaws
pub mod RunTable
pub mod SpotForms
pub mod WholeCell
