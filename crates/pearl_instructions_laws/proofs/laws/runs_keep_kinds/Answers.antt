use Rattle.pearl_instructions_laws.proofs.InBounds.{runs_keep_kinds}
use Rattle.pearl_instructions_laws.proofs.laws.runs_keep_kinds.Goals as goal

pub returns : goal.returns
returns c = runs_keep_kinds c.code_stands.ensures c.tables_are_lawful.ensures
