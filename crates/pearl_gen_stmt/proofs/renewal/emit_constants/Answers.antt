use Rattle.std.proofs.Common.{◌+◌, ◌-◌, length, map, sym, ap, ◌∙◌, arith}
use Rattle.std.proofs.lemmas.List.{length-map}
use Rattle.pearl_program.specs.PlainExpressions.{cell_of}
use Rattle.pearl_gen_stmt.proofs.Storing.{renew_adds}
use Rattle.pearl_gen_stmt.proofs.renewal.emit_constants.Goals as goal

pub returns-clause-added : goal.returns-clause-added
returns-clause-added c setting values same =
    let long = length-map c.args.constants.now cell_of in
    renew_adds setting c.args.code.now.items c.emit_stores.new.code.items c.emit_repeats.new.code.items c.args.cell values (map cell_of c.args.constants.now)
    (c.from.result + (length c.args.constants.now - 1)) c.saturating_sub-more.result
    (omega (arith, long, c.requires))
    (ap (λ n. n + (length c.args.constants.now - 1)) c.from.ensures ∙ ap (λ n. c.args.cell + (n - 1)) (sym long))
    (c.saturating_sub-more.ensures ∙ (ap (λ n. n - length c.args.constants.now) (c.from-2.ensures ∙ sym same) ∙ ap (λ n. values.count - n) (sym long)))
    (c.in_ok-emit_stores.ensures.added setting) c.in_ok-emit_repeats.ensures.kept (c.in_ok-emit_repeats.ensures.added setting)
