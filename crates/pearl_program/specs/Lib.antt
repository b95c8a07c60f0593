-- what an expression of a program says, apart from where its parts lie in memory
pub mod PlainExpressions
-- what statements of a program say, apart from where their parts lie in memory
pub mod PlainStatements
-- what a program says, apart from where its parts lie in memory
pub mod PlainPrograms
-- which kinds the expressions of a program have
pub mod Typing
-- which cells of a routine are hidden
pub mod HiddenCells
-- which statements of a program are sound
pub mod SoundStatements
-- how many cells a routine's operands and calls need beside its own
pub mod Weights
-- which programs are sound
pub mod Sound
-- what slots and cells hold at first
pub mod FirstCells
-- what holds of the kinds of expressions, of first values, and of hidden cells
pub mod Laws
