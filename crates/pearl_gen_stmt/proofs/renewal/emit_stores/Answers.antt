use Rattle.std.proofs.Common.{◌≡◌, ◌++◌, ◌+◌, [], ◌∷◌, ◌∙◌, subst}
use Rattle.pearl_instructions.specs.declared.instr.Instr.TheVariants as instr
use Rattle.pearl_gen_expr.proofs.Offered.{extends_more}
use Rattle.pearl_gen_stmt.proofs.Storing.{stores_more, stores_done}
use Rattle.pearl_gen_stmt.proofs.renewal.emit_stores.Goals as goal

pub loop-index-preserved : goal.loop-index-preserved
loop-index-preserved c =
    let old = c.args.code.now.items in let now = c.loop-index.code.items in let one = c.emit.new.code.items in let two = c.emit-in-loop-index.new.code.items in (
      extends_more old now two c.loop-index.invariant.0 (extends_more now one two c.in_ok-emit.ensures.kept c.in_ok-emit-2.ensures.kept),
      λ setting. stores_more setting old now one two c.args.cell c.args.constants.now c.loop-index.index c.index-constants-index.result c.in_ok-value.value
          c.loop-index-test.true c.index-constants-index.is (c.in_ok-value.ensures ∙ c.cell.ensures) c.in_ok-emit.ensures.added
          (subst (λ n. two ≡ one ++ instr.Store (n + c.loop-index.index) ∷ []) c.from.ensures c.in_ok-emit-2.ensures.added) (c.loop-index.invariant.1 setting),
    )

pub returns-clause-added : goal.returns-clause-added
returns-clause-added c setting =
    stores_done setting c.args.code.now.items c.loop-index.code.items c.args.cell c.args.constants.now c.loop-index.index c.loop-index-test.false (c.loop-index.invariant.1 setting)
