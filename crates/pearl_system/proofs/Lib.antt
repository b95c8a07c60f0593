mod Broken
mod FirstDevices
mod Found
mod Lists
mod Once
mod Said
mod Tests
mod DeviceLaws
mod Walks
pub mod Offered
