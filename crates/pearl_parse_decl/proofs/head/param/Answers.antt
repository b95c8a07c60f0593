-- What `param` answers: no names, no type behind them, or a parameter with IDENT or without it.
use Rattle.std.proofs.Common.{rules, refl, arith}
use Rattle.pearl_parse_expr.proofs.Offered.{residual}
use Rattle.pearl_grammar.proofs.Offered.{param_start, mark_read, only_read, part_taken, part_missing, took_only}
use Rattle.pearl_grammar.proofs.Offered.{took_longest, took_maybe, lacks, lacks_first, longest, none_longest}
use Rattle.pearl_parse_decl.proofs.head.param.Goals as goal

pub returns-in_err-names : goal.returns-in_err-names
returns-in_err-names c =
    rw (residual c.in_err-names.field-0.0 c.from_residual.result c.from_residual.ensures)
    (let none = c.in_err-names.ensures in
    none_longest _ (part_missing (mark_read (param_start c.args.tokens.now c.args.from c.requires (search rules)))
    (lacks_first c.in_err-names.field-0.0 none.refused none.least (omega arith)) (omega arith) (omega arith)))

pub returns-in-Err : goal.returns-in-Err
returns-in-Err c =
    let names = c.in_ok-names.names in
    let read = c.in_ok-names.ensures in
    let none = c.in-Err.ensures.reads in
    none_longest _ (part_missing
    (only_read (mark_read (param_start c.args.tokens.now c.args.from c.requires (search rules)))
    (took_only {new = names.stop} read (omega (arith, read.ahead)) c.requires) (omega arith) (omega arith))
    (lacks c.in-Err.halt c.behind.result none.refused none.least c.behind.ensures.same (omega (arith, read.ahead)))
    (omega (arith, read.ahead)) (omega arith))

pub returns : goal.returns
returns c =
    let names = c.in_ok-names.names in
    let read = c.in_ok-names.ensures in
    let next = c.in-Ok.ensures.reads in
    let flag = c.flag-ident.ensures.reads in
    let typed = part_taken
    (only_read (mark_read (param_start c.args.tokens.now c.args.from c.requires (search rules)))
    (took_only {new = names.stop} read (omega (arith, read.ahead)) c.requires) (omega arith) (omega arith))
    (took_longest {new = c.max.result} next c.max.ensures (omega (arith, read.ahead))) (refl, tt) (omega (arith, read.ahead))
    (omega arith) in
    longest _ (part_taken typed
    (took_maybe {new = c.max-2.result} flag c.max-2.ensures (omega (arith, c.max.ensures, read.ahead, next.ahead))) tt
    (omega (arith, read.ahead, next.ahead)) (omega arith))
    (omega (arith, c.max-2.ensures, flag.bounds)) (λ token h. h) (omega (arith, read.ahead, next.ahead, flag.bounds))
    (search rules)
