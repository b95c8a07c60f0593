use Rattle.std.proofs.Common.{◌++◌, List, drop}
use Rattle.pearl_names.specs.Holding.{HoldsAll}
use Rattle.pearl_names.specs.Tables.{Sense}
use Rattle.pearl_resolve.specs.Numbers.{own_numbers}
use Rattle.pearl_resolve.proofs.Numbering.{NumberedSo}
use Rattle.pearl_resolve.proofs.numbers.add_own_numbers.Given as goal

abbrev pub invariant-loop-sense : goal.invariant-loop-sense
invariant-loop-sense l = (of : List Sense) → HoldsAll l.forms l.senses of →
    NumberedSo l.into.items (l.fn.into.items ++ own_numbers l.control l.cell of) l.control l.next l.cell (drop l.sense-index of) of
