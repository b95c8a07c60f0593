-- lists that rise strictly
pub mod Rising
-- the words of the language, and what a row of the table of words says
pub mod Words
-- the symbols of the language, by their codes
pub mod Symbols
-- the operators of the language, and what a row of the table of operators says
pub mod Operators
-- what the tables of words, symbols and operators have
pub mod TableLaws
-- what stands at a token, and the forms that the rules of the grammar share
pub mod Standing
-- which tokens a literal, a reference or an expression spells
pub mod Expressions
-- which tokens may follow a part that goes on
pub mod Following
-- an expression as a chain of operands and operators
pub mod Chains
-- what a literal says, apart from where its parts lie in memory
pub mod ShownLiterals
-- what an expression says, apart from where its parts lie in memory
pub mod ShownExpressions
-- what types and declarations say, apart from where their parts lie in memory
pub mod ShownDeclarations
-- what statements and bodies say, apart from where their parts lie in memory
pub mod ShownStatements
-- what a module says, apart from where its parts lie in memory
pub mod ShownModules
-- with which first tokens no source begins
pub mod Stops
-- what the grammar determines: one tree, one grouping, one first stop
pub mod Laws
-- which tokens names, bounds and types spell
pub mod Types
-- which tokens the items of a format spell
pub mod Formats
-- which tokens devices spell, and declarations without a body
pub mod Declarations
-- which tokens a statement or a body spells
pub mod Statements
-- which tokens a module spells
pub mod Modules
-- what the spelling of a token allows, and which lists of tokens are lawful
pub mod Tokens
-- what makes a tree or a part of one lawful, for any names that it may have
pub mod Lawfulness
-- which trees and parts of trees are lawful: their names are ids
pub mod Lawful
-- broken static rules as plain data, and which list tells them
pub mod Faults
-- names in a list, and those that repeat one before them
pub mod Names
-- how many milliseconds a duration literal has
pub mod Durations
