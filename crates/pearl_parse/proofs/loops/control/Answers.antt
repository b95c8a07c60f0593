-- That FOR and its name are read where FOR stands.
use Rattle.std.proofs.Common.{◌<◌, ◌^◌, length, rules, refl, arith, ◌+◌}
use Rattle.pearl_parse_expr.specs.Stops.{is_name}
use Rattle.pearl_parse.proofs.Steps.{err_told, missing_is_refused}
use Rattle.pearl_tree.specs.Statements.{SpellsFor}
use Rattle.pearl_parse.proofs.Comes.{Maybe}
use Rattle.pearl_parse.proofs.LoopHeads.{no_control}
use Rattle.pearl_grammar.proofs.Offered.{halts_in}
use Rattle.pearl_parse.proofs.Unread.{unread_only_maybe}
use Rattle.pearl_parse.proofs.loops.control.Goals as goal

pub returns-in_err-control-clause-memory : goal.returns-in_err-control-clause-memory
returns-in_err-control-clause-memory c =
    err_told _ _ c.in_err-control.field-0.0 c.from_residual.result c.from_residual.ensures (λ e is. is)
    (missing_is_refused c.args.tokens.now is_name (c.args.from + 1) c.args.from c.in_err-control.field-0.0
    c.in_err-control.ensures.missing)

pub returns-in_err-control-clause-reads : goal.returns-in_err-control-clause-reads
returns-in_err-control-clause-reads c =
    let tokens = c.args.tokens.now in
    let from = c.args.from in
    let few : length tokens < 2 ^ 55 = search rules in
    let halt = c.in_err-control.field-0.0 in
    unread_only_maybe _ halt c.from_residual.result c.from_residual.ensures (λ e is. is)
    (search rules)
    (halts_in 8 (Maybe SpellsFor) tokens from 0 (omega arith) halt
    (no_control tokens from few (c.if-not-is_word.ensures.stands refl) (c.if-not-is_word.ensures.within refl) halt
    c.in_err-control.ensures.missing))
