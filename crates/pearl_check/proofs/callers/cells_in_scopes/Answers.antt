use Rattle.std.proofs.Common.{◌≡◌, ◌-◌, ◌≤◌, List, [], unwrap_or, slice_get, take, drop, subst, sym, ap, refl, ◌∙◌, arith}
use Rattle.std.specs.List.{sum_by}
use Rattle.pearl_names.specs.declared.types.StructForm.{StructForm}
use Rattle.pearl_names.specs.Counts.{cut}
use Rattle.pearl_names.specs.Holding.{HoldsAll}
use Rattle.pearl_check.specs.Sizes.{cells}
use Rattle.pearl_check.proofs.Passing.{scopes_more}
use Rattle.pearl_check.proofs.callers.cells_in_scopes.Goals as goal

pub loop-scope-init : goal.loop-scope-init
loop-scope-init c = (
  omega arith,
  λ within. within,
  λ t holds.
      let none : c.args.first - c.args.first ≡ 0 = omega arith in
      ap (λ n. cut (sum_by (sum_by cells) (take n (drop c.args.first t.senses)))) (sym none),
)

pub loop-scope-preserved : goal.loop-scope-preserved
loop-scope-preserved c = (
  let first = c.loop-scope.invariant.0 in omega (arith, first),
  λ within. let more = c.loop-scope-test.true in omega (arith, more),
  λ t holds.
      scopes_more (sum_by cells) refl t.senses c.args.first c.loop-scope.scope c.loop-scope.sum c.cells_in_scope.result c.cut_sum-sum.result
      c.loop-scope.invariant.0 (c.loop-scope.invariant.2 t holds)
      (c.cells_in_scope.ensures (unwrap_or (slice_get t.senses c.loop-scope.scope) [])
      (subst (λ (forms : List StructForm). HoldsAll forms c.senses_in.result.now (unwrap_or (slice_get t.senses c.loop-scope.scope) [])) (sym c.forms.ensures)
      (c.senses_in.ensures t holds)))
      c.cut_sum-sum.ensures,
)

pub returns : goal.returns
returns c = λ t count holds counts.
    let past = c.loop-scope-test.false in
    let after = c.loop-scope.invariant.0 in
    let within : c.args.first ≤ c.args.past = omega (arith, counts) in
    let before = c.loop-scope.invariant.1 within in
    let all : c.loop-scope.scope - c.args.first ≡ count = omega (arith, past, after, before, counts) in
    c.loop-scope.invariant.2 t holds ∙ ap (λ n. cut (sum_by (sum_by cells) (take n (drop c.args.first t.senses)))) all
