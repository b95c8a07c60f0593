pub mod Lists
mod StatementRows
pub mod Collecting
pub mod Sorting
mod DeclLists
mod FirstNames
mod FieldPlaces
mod Repeating
mod HeldAt
mod Holding
mod Laid
mod Counting
mod Standing
mod Chains
mod Building
mod FieldsMade
mod Sized
mod TypesMade
mod Steps
mod Outers
mod Examples
mod KindSets
mod ShapeSlots
mod Leaps
mod Walking
pub mod Offered
