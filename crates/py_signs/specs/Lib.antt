pub mod Signs
pub mod Signed
pub mod Limits
