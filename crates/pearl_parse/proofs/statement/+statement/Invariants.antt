-- What the loops keep of the parts that they read, and what falls with each call and each turn.
use Rattle.std.proofs.Common.{◌+◌, ◌-◌, ◌*◌, length}
use Rattle.pearl_tree.specs.Statements.{SpellsStmt}
use Rattle.pearl_parse.specs.Stops.{begins_statement}
use Rattle.pearl_parse.proofs.EachReads.{EachRead, ChoicesRead}
use Rattle.pearl_parse.proofs.statement.+statement.Given as goal

abbrev pub decreases-maybe_branch : goal.decreases-maybe_branch
decreases-maybe_branch l = 6 * l.depth + 4

abbrev pub decreases-alternatives : goal.decreases-alternatives
decreases-alternatives l = 6 * l.depth + 4

abbrev pub decreases-branch : goal.decreases-branch
decreases-branch l = 6 * l.depth + 3

abbrev pub decreases-body : goal.decreases-body
decreases-body l = 6 * l.depth + 3

abbrev pub decreases-statements : goal.decreases-statements
decreases-statements l = 6 * l.depth + 2

abbrev pub decreases-statement : goal.decreases-statement
decreases-statement l = 6 * l.depth + 1

abbrev pub decreases-if_ : goal.decreases-if_
decreases-if_ l = 6 * l.depth

abbrev pub decreases-case : goal.decreases-case
decreases-case l = 6 * l.depth

abbrev pub decreases-repeat : goal.decreases-repeat
decreases-repeat l = 6 * l.depth

abbrev pub decreases-begin : goal.decreases-begin
decreases-begin l = 6 * l.depth

abbrev pub invariant-statements-each : goal.invariant-statements-each
invariant-statements-each l =
    EachRead (λ tokens. SpellsStmt tokens l.depth) begins_statement l.tokens l.from l.least_stop l.list.part.items
    l.list.end l.list.stop

abbrev pub decreases-statements-each : goal.decreases-statements-each
decreases-statements-each l = length l.tokens - l.list.end

abbrev pub invariant-alternatives-each : goal.invariant-alternatives-each
invariant-alternatives-each l =
    ChoicesRead l.tokens l.depth l.from l.least_stop l.list.part.items l.list.end l.list.stop

abbrev pub decreases-alternatives-each : goal.decreases-alternatives-each
decreases-alternatives-each l = length l.tokens - l.list.end
