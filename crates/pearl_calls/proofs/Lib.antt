mod Truths
mod Ways
mod Adding
mod Turns
mod Following
mod Waiting
mod Search
mod Closing
mod Weighing
mod Rows
mod Examples
mod Least
pub mod Offered
