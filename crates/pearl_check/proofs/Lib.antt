mod Adding
mod FoundParts
pub mod AskedLists
pub mod PieceLists
pub mod Calling
mod Sizing
mod Limits
mod Passing
mod Tallying
mod Weighing
mod Firsts
mod CutWeights
mod TellingModules
mod Accepting
mod SeenSemaphores
mod FirstFaults
mod Broken
mod Examples
mod EachSort
mod RoleExamples
mod NameExamples
mod SizeExamples
mod FormatExamples
pub mod Offered
