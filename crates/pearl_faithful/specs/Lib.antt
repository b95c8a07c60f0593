-- what a sound program becomes is valid, offers what its tasks do, and arrives where their parts end
pub mod Generated
-- what an action says, apart from the number that a format has
pub mod Said
-- when an object does what a program means, and how both run over the same entries
pub mod Faithful
-- where the code of a task stands after the answers that it had
pub mod Standing
-- what holds of the runs of a program's object
pub mod Laws
