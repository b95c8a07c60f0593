use Rattle.std.proofs.Common.{◌≡◌, ◌≤◌, drop, fold}
use Rattle.pearl_lex.specs.Literals.{value_of, next_value}
use Rattle.pearl_lex.proofs.literal.value_within.Given as goal

abbrev pub invariant-loop-digit : goal.invariant-loop-digit
invariant-loop-digit l = (fold next_value l.value (drop l.digit-index l.digits) ≡ value_of l.digits) × (l.value ≤ l.max)
