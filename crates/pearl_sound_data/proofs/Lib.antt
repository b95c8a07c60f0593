mod Faults
mod FirstValues
mod Shapes
mod Meant
mod Unbroken
mod ModuleConstants
mod ModuleLeaves
mod LawfulNames
mod LeafNames
mod Presets
mod Devices
mod Formats
mod Filling
mod Renewed
mod Tables
mod Examples
pub mod Offered
