mod Places
mod Stepping
mod InBounds
mod Ending
mod Examples
