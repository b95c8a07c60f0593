use Rattle.pearl_calls.proofs.Rows.{Placed}
use Rattle.pearl_calls.proofs.numbering.numbers_in.Given as goal

abbrev pub invariant-loop-number : goal.invariant-loop-number
invariant-loop-number l = Placed l.order l.numbers.items l.number l.count
