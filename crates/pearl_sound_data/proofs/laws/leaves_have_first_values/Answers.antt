use Rattle.pearl_resolve.specs.Resolve.{numbered_of}
use Rattle.pearl_names.specs.Tables.{table_of}
use Rattle.pearl_sound_data.proofs.ModuleLeaves.{leaves_first}
use Rattle.pearl_sound_data.proofs.laws.leaves_have_first_values.Goals as goal

pub returns : goal.returns
returns c = λ tree devices procedures all. leaves_first tree (numbered_of (table_of tree) devices procedures tree).numbers all
