mod Steps
mod Coming
mod Alike
mod GoingOn
mod Parting
mod Moments
pub mod Offered
