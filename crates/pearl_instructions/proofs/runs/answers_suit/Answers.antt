use Rattle.pearl_instructions.proofs.FitTables.{suits}
use Rattle.pearl_instructions.proofs.runs.answers_suit.Goals as goal

pub returns : goal.returns
returns c = suits
