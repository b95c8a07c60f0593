mod Formatting
mod Making
mod Walking
mod Merging
mod Fills
pub mod Offered
