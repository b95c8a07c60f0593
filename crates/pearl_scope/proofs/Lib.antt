pub mod Placing
mod PartsPlaced
pub mod PartLists
mod Seen
mod Unsound
mod Asking
mod Examples
mod Fitting
mod Filled
mod Put
pub mod Offered
