mod Laws
mod Numbers
mod Loop
mod Places
mod Told
pub mod Offered
