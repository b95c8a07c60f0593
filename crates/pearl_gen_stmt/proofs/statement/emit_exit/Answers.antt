use Rattle.std.proofs.Common.{rules, ◌≡◌, true, length, ◌∙◌, subst, arith}
use Rattle.std.specs.Prelude.{Contains}
use Rattle.pearl_gen_stmt.specs.Emission.{setting_of}
use Rattle.pearl_gen_stmt.proofs.Nesting.{exit_adds}
use Rattle.pearl_gen_stmt.proofs.statement.emit_exit.Goals as goal

pub returns-clause-added : goal.returns-clause-added
returns-clause-added c =
    let within : c.args.site.in_loop ≡ true = search rules in
    let at : Contains c.note.new.places.items (length c.args.code.now.items) =
    subst (λ k. Contains c.note.new.places.items k) (c.len.ensures ∙ omega (arith, c.args.code.now.ok.0)) c.in_ok-note.ensures.there in
    exit_adds (setting_of c.args.site.program.now c.args.site.result c.args.site.routine.now) c.args.site.in_loop c.note.new.places.items c.args.code.now.items c.emit_pending.new.code.items
    within at c.in_ok-emit_pending.ensures.added
