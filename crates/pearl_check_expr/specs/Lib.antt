-- what is asked of what a name stands for
pub mod Senses
-- the kinds of literals
pub mod Literals
-- which kinds are the same, and which suit which
pub mod Kinds
-- how far a reference has come: its open dimensions and the shape of what it names
pub mod Standings
-- the kind of each expression, and the rules S15 to S22 that are broken in it
pub mod Judged
-- what is answered and added, against what the definitions say
pub mod Answers
-- what is asked for its kind, and what it is found to be
pub mod Subjects
-- what holds of every subject, and of the kinds and names in it
pub mod Laws
