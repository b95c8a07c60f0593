use Rattle.pearl_program.proofs.NotHidden.{not_hidden}
use Rattle.pearl_program.proofs.laws.variables_are_not_hidden.Goals as goal

pub returns : goal.returns
returns c = not_hidden
