use Rattle.pearl_instructions_laws.proofs.Ending.{runs_end}
use Rattle.pearl_instructions_laws.proofs.laws.runs_end.Goals as goal

pub returns : goal.returns
returns c = runs_end c.code_stands.ensures c.tables_are_lawful.ensures c.actions_are_offered_soon.ensures
