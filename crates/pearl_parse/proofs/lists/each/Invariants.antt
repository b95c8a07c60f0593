-- What the loop keeps of the parts that it read, and what falls with each of them.
use Rattle.std.proofs.Common.{◌-◌, length}
use Rattle.pearl_parse.proofs.EachReads.{EachRead}
use Rattle.pearl_parse.proofs.lists.each.Given as goal

abbrev pub invariant-each : goal.invariant-each
invariant-each g l =
    EachRead g.P.Repeated.spelling g.P.Repeated.begins l.tokens l.from l.from l.list.part.items l.list.end l.list.stop

abbrev pub decreases-each : goal.decreases-each
decreases-each g l = length l.tokens - l.list.end
