mod Shown
mod Standings
mod Walking
mod Judging
mod Faultless
mod Undeclared
pub mod Offered
