use Rattle.pearl_rules.proofs.EndLaws.{machine_goes_alike, marked_alike}
use Rattle.pearl_rules.proofs.laws.machine_begins_alike.Goals as goal

pub returns-clause-state : goal.returns-clause-state
returns-clause-state g c = λ engine. machine_goes_alike engine

pub returns-clause-marks : goal.returns-clause-marks
returns-clause-marks g c = λ engine. marked_alike engine
