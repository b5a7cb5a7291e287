pub mod Below
pub mod NodeLists
