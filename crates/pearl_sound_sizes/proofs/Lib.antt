mod Basics
mod Measures
mod MeasuredStatements
mod Cells
mod Called
mod ByNumber
mod Kept
mod Routines
mod Bounds
mod Counts
mod Limits
mod Whole
mod Devices
mod Tasks
mod Given
mod Sized
mod Examples
pub mod Offered
