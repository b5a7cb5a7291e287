pub mod Runs
pub mod SameExpr
pub mod SameStmt
pub mod Back
pub mod InOrder
