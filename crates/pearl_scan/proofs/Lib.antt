mod Numbers
mod BitLaws
mod Pieces
mod Steps
mod Completing
mod Going
mod Written
mod Back
mod Within
pub mod Offered
