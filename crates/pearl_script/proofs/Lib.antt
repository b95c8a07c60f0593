mod LineLemmas
mod Bits
mod Clocks
pub mod Offered
