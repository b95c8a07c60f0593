mod Digits
mod Texts
mod Steps
mod Printable
mod Longer
mod Counts
mod BitGroups
pub mod Offered
