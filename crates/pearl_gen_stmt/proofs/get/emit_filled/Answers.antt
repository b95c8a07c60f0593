use Rattle.std.proofs.Common.{◌≡◌, ◌++◌, ◌+◌, [], ◌∷◌, subst}
use Rattle.pearl_instructions.specs.declared.instr.Instr.TheVariants as instr
use Rattle.pearl_gen_stmt.specs.Emission.{setting_of}
use Rattle.pearl_gen_expr.proofs.Offered.{extends_more}
use Rattle.pearl_gen_stmt.proofs.Getting.{filled_more, filled_done}
use Rattle.pearl_gen_stmt.proofs.get.emit_filled.Goals as goal

pub loop-index-preserved : goal.loop-index-preserved
loop-index-preserved c =
    let old = c.args.code.now.items in let now = c.loop-index.code.items in let one = c.emit.new.code.items in (
      extends_more old now one c.loop-index.invariant.0 c.in_ok-emit.ensures.kept,
      filled_more (setting_of c.args.site.program.now c.args.site.result c.args.site.routine.now) old now one c.args.cell c.args.targets.now c.loop-index.index c.index-targets-index.result c.in_ok-kind.kind c.loop-index-test.true
          c.index-targets-index.is c.in_ok-kind.ensures
          (subst (λ n. one ≡ now ++ instr.Fill (n + c.loop-index.index) 1 c.in_ok-kind.kind ∷ []) c.from.ensures c.in_ok-emit.ensures.added) c.loop-index.invariant.1,
    )

pub returns-clause-added : goal.returns-clause-added
returns-clause-added c =
    filled_done (setting_of c.args.site.program.now c.args.site.result c.args.site.routine.now) c.args.code.now.items c.loop-index.code.items c.args.cell c.args.targets.now c.loop-index.index c.loop-index-test.false c.loop-index.invariant.1
