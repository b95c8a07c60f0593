use Rattle.std.proofs.Common.{◌≡◌, ◌+◌, ◌-◌, ◌≤◌, length, [], ◌∷◌, ◌++◌, sym, subst, ap, ◌∙◌, arith}
use Rattle.pearl_names.specs.Kinds.{no_kinds, kinds_among}
use Rattle.pearl_names.specs.Runs.{field_slots, drop_fields}
use Rattle.pearl_names.proofs.Walking.{Tailed, tailed_none, tailed_more}
use Rattle.pearl_names.proofs.types.tails_of.Goals as goal

pub loop-left-init : goal.loop-left-init
loop-left-init c =
    let entries = c.args.form.now.fields.entries in
    let left = c.len-left.result in
    let same : c.push.new.self.items ≡ no_kinds ∷ [] = c.in_ok-push.ensures.items ∙ ap (λ l. l ++ no_kinds ∷ []) c.new-tails.ensures.items in
    let all : left ≡ length entries = c.len-left.ensures in (
      omega (arith, all),
      λ fields h.
          subst (λ l. Tailed l no_kinds (drop_fields left fields)) (sym same)
          (subst (λ n. Tailed (no_kinds ∷ []) no_kinds (drop_fields n fields)) (sym all) (tailed_none c.args.forms.now entries fields h)),
    )

pub loop-left-preserved : goal.loop-left-preserved
loop-left-preserved c =
    let entries = c.args.form.now.fields.entries in
    let left = c.loop-left.left in
    let inside : left ≤ length entries = c.loop-left.invariant.0 in
    let some = c.loop-left-test.true in
    let next : left ≡ left - 1 + 1 = omega (arith, some) in (
      omega (arith, inside),
      λ fields h.
          let so = c.loop-left.invariant.1 fields h in
          let own = c.kinds_with-kinds.ensures fields h (subst (λ n. c.loop-left.kinds ≡ kinds_among (field_slots 1 (drop_fields n fields))) next so.last) in
          rw c.in_ok-push-2.ensures.items
          (tailed_more c.args.forms.now entries fields left (left - 1) c.loop-left.tails.items c.loop-left.kinds c.kinds_with-kinds.result h next inside so own),
    )

pub returns : goal.returns
returns c = λ fields h.
    let left = c.loop-left.left in
    let over = c.loop-left-test.false in
    let none : left ≡ 0 = omega (arith, over) in
    (subst (λ n. Tailed c.loop-left.tails.items c.loop-left.kinds (drop_fields n fields)) none (c.loop-left.invariant.1 fields h)).all
