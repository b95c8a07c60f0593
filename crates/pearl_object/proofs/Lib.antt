mod Bytes
mod Parts
mod OperandLaws
mod InstructionLaws
mod Spellings
mod Wholes
mod Ranges
mod CellKinds
mod Identifiers
mod WordTable
mod Spelled
mod Fitting
mod Standing
mod Reading
mod CodeTable
mod Lines
mod ColumnLaws
pub mod Offered
