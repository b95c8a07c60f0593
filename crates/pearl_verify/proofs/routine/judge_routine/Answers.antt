use Rattle.std.proofs.Common.{◌≡◌, ℕ, List, Some, length, slice_get, refl, sym, ap, subst, ◌∙◌, arith}
use Rattle.std.proofs.lemmas.Option.{slice_get_read}
use Rattle.pearl_instructions.specs.declared.instr.Instr.{Instr}
use Rattle.pearl_instructions.specs.Valid.{judged_at}
use Rattle.pearl_verify.proofs.Judging.{whole_at, kept_all, kept_more}
use Rattle.pearl_verify.proofs.routine.judge_routine.Goals as goal

pub loop-i-preserved : goal.loop-i-preserved
loop-i-preserved c =
    let i : ℕ = c.loop-i.i in
    let x : Instr = c.instr-item.result in
    let at : slice_get c.args.code.now.instructions i ≡ Some x =
    subst (λ xs. slice_get xs i ≡ Some x) c.as_slice-instr-items.ensures
    (slice_get_read c.as_slice-instr-items.result.now (length c.as_slice-instr-items.result.now) i x refl c.loop-i-test.true c.instr-item.is) in (
      (λ less. (c.in_ok-rule.ensures.next c.in_default.is less, c.in_ok-rule.ensures.numbered c.in_default.is less)),
      kept_more c.args.object.now c.args.routine c.args.code.now i x at (sym c.in_ok-rule.ensures.rule ∙ c.in_default.is) c.loop-i.invariant.1,
    )

pub returns-in-Some-judge_whole : goal.returns-in-Some-judge_whole
returns-in-Some-judge_whole c =
    let is : List Instr = c.args.code.now.instructions in
    let here = c.as_slice-in-Some-judge_whole.ensures in
    let a = ap length here in
    let b = ap length c.as_slice-instr-items.ensures in (
      ap (λ xs. judged_at c.args.object.now c.args.routine c.args.code.now (length xs) (slice_get is (length xs))) here
          ∙ whole_at c.args.object.now c.args.routine c.args.code.now ∙ sym c.in-Some-judge_whole.ensures,
      (λ j less. c.loop-i.invariant.1 j (omega (arith, less, a, b, c.loop-i-test.false))),
    )

pub returns : goal.returns
returns c =
    let b = ap length c.as_slice-instr-items.ensures in
    kept_all c.args.object.now c.args.routine c.args.code.now (λ j less. c.loop-i.invariant.1 j (omega (arith, less, b, c.loop-i-test.false))) (sym c.in-None.ensures)
