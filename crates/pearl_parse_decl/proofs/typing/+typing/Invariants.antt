-- What the list of fields is so far; its rest is shorter each time, and a type within another one is less deep.
use Rattle.std.proofs.Common.{◌+◌, ◌-◌, ◌*◌, length}
use Rattle.pearl_tree.specs.Types.{SpellsField}
use Rattle.pearl_parse_decl.specs.Readings.{by_bracket}
use Rattle.pearl_parse_expr.proofs.Offered.{ListRead}
use Rattle.pearl_parse_decl.proofs.typing.+typing.Given as goal

abbrev pub decreases-fields : goal.decreases-fields
decreases-fields l = 4 * l.depth + 3

abbrev pub decreases-field : goal.decreases-field
decreases-field l = 4 * l.depth + 2

abbrev pub decreases-typing : goal.decreases-typing
decreases-typing l = 4 * l.depth + 1

abbrev pub decreases-structure : goal.decreases-structure
decreases-structure l = 4 * l.depth

abbrev pub invariant-fields-each : goal.invariant-fields-each
invariant-fields-each l = ListRead (λ tokens. SpellsField tokens l.depth) by_bracket l.tokens l.from l.list.part.items
    l.list.end l.list.stop

abbrev pub decreases-fields-each : goal.decreases-fields-each
decreases-fields-each l = length l.tokens - l.list.end
