pub mod Lines
pub mod Names
pub mod NamesIndex
pub mod Same
pub mod formers
