-- What the list is so far; its rest is shorter each time.
use Rattle.std.proofs.Common.{◌-◌, length}
use Rattle.pearl_parse_expr.proofs.Offered.{ListRead}
use Rattle.pearl_parse_decl.proofs.list.list.Given as goal

abbrev pub invariant-each : goal.invariant-each
invariant-each g l = ListRead g.P.Readable.spelling g.P.Readable.extends l.tokens l.from l.list.part.items l.list.end
    l.list.stop

abbrev pub decreases-each : goal.decreases-each
decreases-each g l = length l.tokens - l.list.end
