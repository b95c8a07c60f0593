mod Written
mod Halves
mod Heads
mod Shown
mod Spots
mod Holds
mod StackLaws
mod Keeps
pub mod Offered
