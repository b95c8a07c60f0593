use Rattle.std.proofs.Common.{◌≡◌, ◌++◌, ◌+◌, [], ◌∷◌, subst}
use Rattle.pearl_instructions.specs.declared.instr.Instr.TheVariants as instr
use Rattle.pearl_gen_expr.proofs.Offered.{extends_more}
use Rattle.pearl_gen_stmt.proofs.Getting.{written_more, written_done}
use Rattle.pearl_gen_stmt.proofs.get.emit_written.Goals as goal

pub loop-index-preserved : goal.loop-index-preserved
loop-index-preserved c =
    let old = c.args.code.now.items in let now = c.loop-index.code.items in let one = c.emit.new.code.items in let two = c.emit-in-loop-index.new.code.items in
    let three = c.emit-in-loop-index-2.new.code.items in (
      extends_more old now three c.loop-index.invariant.0 (extends_more now one three c.in_ok-emit.ensures.kept
          (extends_more one two three c.in_ok-emit-2.ensures.kept c.in_ok-emit-3.ensures.kept)),
      λ setting. written_more setting old now one two three c.args.cell c.args.at c.args.targets.now c.loop-index.index c.index-targets-index.result c.in_ok-instr.instr
          c.loop-index-test.true c.index-targets-index.is c.in_ok-instr.ensures
          (subst (λ n. one ≡ now ++ instr.Load n ∷ []) c.kept_in.ensures c.in_ok-emit.ensures.added)
          (subst (λ n. two ≡ one ++ instr.Load (n + c.loop-index.index) ∷ []) c.from.ensures c.in_ok-emit-2.ensures.added)
          c.in_ok-emit-3.ensures.added (c.loop-index.invariant.1 setting),
    )

pub returns-clause-added : goal.returns-clause-added
returns-clause-added c setting =
    written_done setting c.args.code.now.items c.loop-index.code.items c.args.cell c.args.at c.args.targets.now c.loop-index.index c.loop-index-test.false
    (c.loop-index.invariant.1 setting)
