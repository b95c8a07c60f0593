use Rattle.pearl_gen_stmt.specs.Emission.{setting_of}
use Rattle.pearl_gen_expr.proofs.Offered.{extends_more}
use Rattle.pearl_gen_stmt.proofs.Getting.{kept_more, kept_done}
use Rattle.pearl_gen_stmt.proofs.get.emit_kept.Goals as goal

pub loop-index-preserved : goal.loop-index-preserved
loop-index-preserved c =
    let old = c.args.code.now.items in let now = c.loop-index.code.items in let one = c.emit_found.new.code.items in let two = c.emit.new.code.items in (
      extends_more old now two c.loop-index.invariant.0 (extends_more now one two c.in_ok-emit_found.ensures.kept c.in_ok-emit.ensures.kept),
      kept_more (setting_of c.args.site.program.now c.args.site.result c.args.site.routine.now) old now one two c.args.at c.args.targets.now c.loop-index.index c.index-targets-index.result c.loop-index-test.true c.index-targets-index.is
          c.in_ok-emit_found.ensures.kept c.in_ok-emit_found.ensures.added c.in_ok-emit.ensures.added c.loop-index.invariant.1,
    )

pub returns-clause-added : goal.returns-clause-added
returns-clause-added c =
    kept_done (setting_of c.args.site.program.now c.args.site.result c.args.site.routine.now) c.args.code.now.items c.loop-index.code.items c.args.at c.args.targets.now c.loop-index.index c.loop-index-test.false c.loop-index.invariant.1
