-- What `bound` answers: no first number, or a bound with a second one or without it.
use Rattle.std.proofs.Common.{rules, arith}
use Rattle.pearl_parse_expr.proofs.Offered.{residual}
use Rattle.pearl_grammar.proofs.Offered.{bound_start, mark_read, only_read, part_taken, part_missing, took_only}
use Rattle.pearl_grammar.proofs.Offered.{took_maybe, lacks_first, longest, none_longest}
use Rattle.pearl_parse_decl.proofs.typing.bound.Goals as goal

pub returns-in_err-first-clause-reads : goal.returns-in_err-first-clause-reads
returns-in_err-first-clause-reads c =
    rw (residual c.in_err-first.field-0.0 c.from_residual.result c.from_residual.ensures)
    (let none = c.in_err-first.ensures.reads in
    none_longest _ (part_missing (mark_read (bound_start c.args.tokens.now c.args.from c.requires (search rules)))
    (lacks_first c.in_err-first.field-0.0 none.refused none.least (omega arith)) (omega arith) (omega arith)))

pub returns-clause-reads : goal.returns-clause-reads
returns-clause-reads c =
    let first = c.in_ok-first.first in
    let read = c.in_ok-first.ensures.reads in
    let next = c.upper-second.ensures in
    longest _ (part_taken
    (only_read (mark_read (bound_start c.args.tokens.now c.args.from c.requires (search rules)))
    (took_only {new = first.stop} read (omega (arith, read.ahead)) c.requires) (omega arith) (omega arith))
    (took_maybe {new = c.max.result} next c.max.ensures (omega (arith, read.ahead))) tt (omega (arith, read.ahead))
    (omega arith)) (omega (arith, c.max.ensures, next.bounds)) (λ token h. h) (omega (arith, read.ahead, next.bounds))
    (search rules)

pub returns-in_err-first-clause-memory : goal.returns-in_err-first-clause-memory
returns-in_err-first-clause-memory c =
    rw (residual c.in_err-first.field-0.0 c.from_residual.result c.from_residual.ensures) c.in_err-first.ensures.memory
