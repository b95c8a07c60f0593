mod OneKind
mod FirstValues
mod WholeProgram
mod NotHidden
mod Unsound
mod UnsoundStatements
pub mod Offered
