pub mod AllowedLaws
pub mod Kept
pub mod KeptTexts
pub mod LaterLaws
pub mod Lawful
pub mod LawfulOps
