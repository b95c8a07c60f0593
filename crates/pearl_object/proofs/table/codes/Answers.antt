use Rattle.std.proofs.Common.{refl}
use Rattle.pearl_object.specs.CodeRows.{names, letters}
use Rattle.pearl_object.proofs.table.codes.Goals as goal

pub returns-clause-codes : goal.returns-clause-codes
unfolding names letters
returns-clause-codes c = record { counted = refl; named = refl; lettered = refl }
