mod Turned
mod Alike
mod Forth
mod Back
mod Again
mod Reading
mod Depths
mod Small
pub mod Offered
