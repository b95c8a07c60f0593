-- how a scope's variables lie in leaves and cells, and what their INIT puts into them
pub mod Laying
-- which number each name of each scope has, and which cells a statement goes past
pub mod Numbers
-- what an expression becomes once its names are numbers
pub mod Expressions
-- what statements become once their names are numbers
pub mod Statements
-- which cells a task or procedure has
pub mod Cells
-- which program a module means
pub mod Resolve
-- which thing stands at each number, where things have numbers
pub mod Placing
-- what the parts of statements in memory show
pub mod Parts
-- what stands in memory of what the definitions say
pub mod Holding
-- the place of a device among the others
pub mod Devices
