-- The productions of statements with lists between tokens.
use Rattle.pearl_grammar.proofs.Said.{semas_said, put_said, get_said}
use Rattle.pearl_grammar.proofs.laws.statements_are_said.Goals as goal

pub returns-clause-on_semas : goal.returns-clause-on_semas
returns-clause-on_semas c = semas_said

pub returns-clause-put : goal.returns-clause-put
returns-clause-put c = put_said

pub returns-clause-get : goal.returns-clause-get
returns-clause-get c = get_said
