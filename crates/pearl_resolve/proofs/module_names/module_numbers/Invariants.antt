use Rattle.std.proofs.Common.{◌≡◌, ◌++◌, List, drop}
use Rattle.pearl_names.specs.Holding.{HoldsAll}
use Rattle.pearl_names.specs.Tables.{Sense}
use Rattle.pearl_resolve.specs.Holding.{before_in}
use Rattle.pearl_resolve.specs.Numbers.{module_numbers, nothing_before}
use Rattle.pearl_resolve.proofs.module_names.module_numbers.Given as goal

abbrev pub invariant-loop-index : goal.invariant-loop-index
invariant-loop-index l = (of : List Sense) → HoldsAll l.forms l.senses of →
    l.numbers.items ++ module_numbers l.devices l.procedures (before_in l.before) (drop l.index l.entries) (drop l.index of) ≡
    module_numbers l.devices l.procedures nothing_before l.entries of
