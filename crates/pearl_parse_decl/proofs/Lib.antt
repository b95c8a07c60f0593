mod Lists
mod Behind
mod Types
mod Constants
mod Leaves
mod Kept
mod DeclaredKinds
mod Structs
mod ListReach
pub mod Offered
