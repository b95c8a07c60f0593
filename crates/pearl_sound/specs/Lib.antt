-- when names lead to what is there in a program, and when literals are values
pub mod SoundNames
-- the names of a module: what each stands for, and its number; which numbers its procedures may have, and when devices suit
pub mod ModuleNames
-- from where the names of a module's routines are seen, each view with what stands around it in the program
pub mod Sights
-- when all names and literals of an expression are known: each name has a sense with no rule broken in it, and each literal a kind
pub mod KnownNames
-- when what a statement asks for is known: each subject has a kind, and each name a sense; and which statements are asked
pub mod KnownParts
-- when what a name stands for is sound: kinds have lengths in their ranges, and of a variable all bounds are in theirs, and its leaves are small
pub mod SoundForms
-- what the cells of a routine are given to, stretch by stretch in the order of the text: the names of a scope, a loop that counts, the targets of a GET
pub mod Stretches
-- when a statement has all that it needs, with all statements within it: names lead to what is there, what it asks for is known, no rule is broken, and its format, its cells and the first values of its variables are there
pub mod Ready
-- what holds of scopes, cells, hidden cells and formats, of names and components, and of what expressions and targets become
pub mod Laws
