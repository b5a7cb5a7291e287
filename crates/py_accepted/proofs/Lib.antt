pub mod AcceptedLaws
pub mod Each
pub mod FaultNodes
pub mod Least
pub mod Texts
