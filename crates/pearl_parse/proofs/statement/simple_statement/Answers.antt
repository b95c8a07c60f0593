-- That the statement is read that its first token begins.
use Rattle.pearl_parse.proofs.statement.simple_statement.Goals as goal

pub returns-in-Exit : goal.returns-in-Exit
returns-in-Exit c = c.exit.ensures.reads

pub returns-in-Empty : goal.returns-in-Empty
returns-in-Empty c = c.empty.ensures
