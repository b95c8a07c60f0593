use Rattle.std.proofs.Common.{◌≡◌, subst, arith, true, ◌==◌}
use Rattle.std.specs.Vec.{vec_len}
use Rattle.pearl_program.specs.PlainExpressions.{plain_exprs}
use Rattle.pearl_gen_stmt.specs.Emission.{setting_of}
use Rattle.pearl_gen_expr.proofs.Offered.{some_are}
use Rattle.pearl_gen_stmt.proofs.Settling.{none_there}
use Rattle.pearl_gen_stmt.proofs.Getting.{zero_found_adds, found_adds}
use Rattle.pearl_gen_stmt.proofs.get.emit_found.Goals as goal

pub returns-then-is_empty-clause-added : goal.returns-then-is_empty-clause-added
returns-then-is_empty-clause-added c =
    let v = c.args.target.now in
    zero_found_adds (setting_of c.args.site.program.now c.args.site.result c.args.site.routine.now) c.args.code.now.items c.emit.new.code.items v.target v.bounds.items (plain_exprs v.subscripts.items) c.in_ok-zero.zero
    (none_there v.bounds.items (subst (λ n. true ≡ (n == 0)) (omega (arith, v.bounds.ok.0)) c.if-is_empty.ensures)) c.in_ok-zero.ensures c.in_ok-emit.ensures.added

pub returns-clause-added : goal.returns-clause-added
returns-clause-added c =
    let v = c.args.target.now in
    found_adds (setting_of c.args.site.program.now c.args.site.result c.args.site.routine.now) c.args.code.now.items c.emit_offset.new.code.items v.target v.bounds.items (plain_exprs v.subscripts.items)
    (some_are (vec_len v.bounds) v.bounds.items c.if-is_empty.ensures (omega (arith, v.bounds.ok.0))) c.in_ok-emit_offset.ensures.added
