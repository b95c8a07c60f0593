-- a production as data: its parts in order, and how each is joined to the others; and which tokens it spells
pub mod Rules
-- the productions of names, bounds, types and declarations without a body
pub mod Declarations
-- the productions of statements that hold no others
pub mod Statements
-- what holds of productions: what each spells is what the definition of its part says
pub mod Laws
-- how far some part goes on, where that is told no earlier than what stands before it was stopped
pub mod Reached
