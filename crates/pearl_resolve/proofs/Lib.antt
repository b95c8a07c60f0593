mod Adding
mod Examples
mod Lookups
mod Loops
mod ModuleLeaves
mod ModuleNumbers
mod Numbering
mod PlacingSteps
mod PlainNodes
mod Reached
mod Renewing
mod Resolving
mod RoutineLists
mod ScopeCells
mod Sizes
mod StatementNodes
mod StatementParts
pub mod Offered
