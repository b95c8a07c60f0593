-- what a record must be so that a run over some tables can go on from it
pub mod States
-- what of a core is recorded, and the core of a record
pub mod Records
