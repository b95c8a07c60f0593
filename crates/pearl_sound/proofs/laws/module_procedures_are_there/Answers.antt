use Rattle.pearl_sound.proofs.ModuleProcedures.{callee_there}
use Rattle.pearl_sound.proofs.laws.module_procedures_are_there.Goals as goal

pub returns : goal.returns
returns c = callee_there
