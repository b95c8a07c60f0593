mod Sums
mod Weights
mod Zips
mod Whole
mod Routines
