use Rattle.pearl_gen_expr.proofs.Offered.{extends_more}
use Rattle.pearl_gen_stmt.proofs.Storing.{repeats_more, repeats_done}
use Rattle.pearl_gen_stmt.proofs.renewal.emit_repeats.Goals as goal

pub loop-index-preserved : goal.loop-index-preserved
loop-index-preserved c =
    let old = c.args.code.now.items in let now = c.loop-index.code.items in let one = c.emit.new.code.items in let two = c.emit-in-loop-index.new.code.items in (
      extends_more old now two c.loop-index.invariant.0 (extends_more now one two c.in_ok-emit.ensures.kept c.in_ok-emit-2.ensures.kept),
      λ setting. repeats_more setting old now one two c.args.cell c.args.more c.loop-index.index c.loop-index-test.true c.in_ok-emit.ensures.added
          c.in_ok-emit-2.ensures.added (c.loop-index.invariant.1 setting),
    )

pub returns-clause-added : goal.returns-clause-added
returns-clause-added c setting =
    repeats_done setting c.args.code.now.items c.loop-index.code.items c.args.cell c.args.more c.loop-index.index c.loop-index-test.false (c.loop-index.invariant.1 setting)
