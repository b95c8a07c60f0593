mod OneMark
mod Refusing
mod SameValues
mod StepLines
mod MarkLines
mod Fitting
mod Slots
mod Telling
mod Still
mod Showing
mod Whole
mod Entering
pub mod Offered
