use Rattle.std.proofs.Common.{◌≡◌, length, map}
use Rattle.std.specs.Vec.Iter.{into_iter_items, into_iter_len}
use Rattle.pearl_program.specs.PlainStatements.{plain_stmts, plain_values}
use Rattle.pearl_resolve.specs.Holding.{values_renewals}
use Rattle.pearl_resolve.specs.Statements.{joined}
use Rattle.pearl_resolve.proofs.renewals.add_values_renewals.Given as goal

abbrev pub invariant-loop-own : goal.invariant-loop-own
invariant-loop-own l =
    (joined (plain_stmts l.into.items) (values_renewals l.next (map plain_values (into_iter_items l.own-iterator))) ≡
    joined (plain_stmts l.fn.into.items) (values_renewals l.cell (map plain_values l.fn.values.items))) ×
    (into_iter_len l.own-iterator ≡ length (into_iter_items l.own-iterator))
