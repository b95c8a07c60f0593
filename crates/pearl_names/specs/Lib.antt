-- the lengths of FIXED, BIT and CHAR, and which one holds where none is written
pub mod Lengths
-- the default lengths as steps by place
pub mod Steps
-- which duration literals are too long
pub mod Durations
-- which scopes a module has, and what each declares
pub mod Scopes
-- what lists of statements and branches show, as those within a statement
pub mod Listed
-- a scope's names as contracts see them
pub mod ScopeNames
-- what the scopes in memory show, whose names stand in groups that are declared together
pub mod Groups
-- what sort of thing each name of a scope is
pub mod Sorts
-- the first name of a text in a scope, and the repeated ones
pub mod FirstNames
-- which entry of which scope a name means where it is seen, and of what sort it is
pub mod Found
-- which kinds, bounds and fields the types of variables have
pub mod Shapes
-- as which leaves a variable is laid out
pub mod Layout
-- how many leaves, slots and dimensions a type has, and how long the longest name of a leaf is, cut off above the limits
pub mod Counts
-- which kinds are among some slots
pub mod Kinds
-- the slots of types that are written out
pub mod Runs
-- the fields of a STRUCT as contracts see them, and where the first of a name stands
pub mod FieldEntries
-- what a STRUCT with one field comes to
pub mod Chains
-- what a STRUCT begins with, by a few leaps
pub mod Leaps
-- the TYPEs of a module by number, with their counts and the bounds of their fields
pub mod Forms
-- what each STRUCT adds to the TYPEs by number
pub mod Forming
-- walks over the slots of a variable, run by run
pub mod Walks
-- what is known of a module before its rules are asked
pub mod Known
-- what each name of a scope stands for, with all that is asked of it where it is used
pub mod Tables
-- which table in memory holds which table of names
pub mod Holding
-- a scope stands within an earlier one
pub mod Laws
