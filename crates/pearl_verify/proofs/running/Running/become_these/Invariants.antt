use Rattle.std.proofs.Common.{◌≡◌, reverse, take}
use Rattle.pearl_verify.specs.Numbers.{IsNumbered}
use Rattle.pearl_verify.proofs.running.Running.become_these.Given as goal

abbrev pub invariant-loop-kind : goal.invariant-loop-kind
invariant-loop-kind l = (l.self.kinds ≡ reverse (take l.kind-index l.kinds)) × IsNumbered l.tree.edges l.self
