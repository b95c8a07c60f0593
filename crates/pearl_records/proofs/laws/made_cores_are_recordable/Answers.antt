use Rattle.pearl_records.proofs.Cores.{core-recordable}
use Rattle.pearl_records.proofs.laws.made_cores_are_recordable.Goals as goal

pub returns : goal.returns
returns c = λ setup core lawful is. core-recordable setup core is lawful
