pub mod Tree
pub mod View
pub mod Nodes
pub mod Walks
pub mod Statement
pub mod Lawful
