-- The rules by their numbers.
use Rattle.std.specs.Prelude.{ℕ}
use Rattle.pearl_snap.specs.declared.state_rule.StateRule.{StateRule}
use Rattle.pearl_snap.specs.declared.state_rule.StateRule.TheVariants.{Validity, Parts, Numbers, Plans, Stacks, References}

abbrev pub number : StateRule → ℕ
number Validity = 1
number Parts = 2
number Numbers = 3
number Plans = 4
number Stacks = 5
number References = 6
