use Rattle.pearl_instructions.proofs.Tables.{are_tables}
use Rattle.pearl_instructions.proofs.runs.tables_are_lawful.Goals as goal

pub returns : goal.returns
returns c = are_tables
