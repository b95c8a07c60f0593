use Rattle.std.proofs.Common.{◌≡◌, ◌++◌, ◌-◌, replicate, take}
use Rattle.pearl_scan.proofs.field.letters.Given as goal

abbrev pub invariant-loop : goal.invariant-loop
invariant-loop l = l.all.items ≡ take l.len l.text ++ replicate (l.counter - l.count) 32
