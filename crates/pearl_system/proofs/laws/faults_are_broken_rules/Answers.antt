use Rattle.pearl_system.proofs.Broken.{faults_are_broken}
use Rattle.pearl_system.proofs.laws.faults_are_broken_rules.Goals as goal

pub returns : goal.returns
returns c = faults_are_broken
