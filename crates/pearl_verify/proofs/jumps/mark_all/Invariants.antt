use Rattle.std.proofs.Common.{◌≡◌, drop}
use Rattle.pearl_verify.specs.Jumps.{marked}
use Rattle.pearl_verify.proofs.jumps.mark_all.Given as goal

abbrev pub invariant-loop-number : goal.invariant-loop-number
invariant-loop-number l = marked l.numbers l.initial.marks.items ≡ marked (drop l.number-index l.numbers) l.marks.items
