use Rattle.std.proofs.Common.{◌≡◌, suc, ◌+◌, ◌≤◌, ◌∷◌, Some, length, drop, slice_get, refl, ap, subst, ◌∙◌, arith}
use Rattle.std.proofs.lemmas.List.{drop_all}
use Rattle.std.proofs.lemmas.Option.{slice_get_read}
use Rattle.pearl_resolve.specs.Holding.{before_in}
use Rattle.pearl_resolve.proofs.ModuleNumbers.{get_left, module_more, no_sense_left}
use Rattle.pearl_resolve.proofs.Numbering.{next_held, held_length}
use Rattle.pearl_resolve.proofs.module_names.module_numbers.Goals as goal

pub loop-index-preserved : goal.loop-index-preserved
loop-index-preserved c = λ of holds.
    let forms = c.args.forms.now in
    let xs = c.args.entries.now in
    let i = c.loop-index.index in
    let entry = c.in-Some.entry.now in
    let n = next_held forms c.args.senses.now of i c.index-senses-index.result c.loop-index-test.true c.index-senses-index.is holds in
    let at : slice_get xs i ≡ Some entry = slice_get_read xs _ i entry refl c.in-Some.ensures.lookup.3.0 c.in-Some.ensures.lookup.1 in
    let next : suc i ≡ i + 1 = omega arith in
    rw c.in_ok-push.ensures.items (module_more c.args.devices.now c.args.procedures.now _ (before_in c.loop-index.before) (before_in c.in_ok-before.before) xs of i entry n.sense _ _
    (get_left xs i entry at ∙ ap (λ k. entry ∷ drop k xs) next) (n.left ∙ ap (λ k. n.sense ∷ drop k of) next)
    (c.in_ok-number.ensures forms n.sense n.holds) (c.in_ok-before.ensures n.sense n.holds) (c.loop-index.invariant of holds))

pub returns : goal.returns
returns c = λ of holds.
    let past : length of ≤ c.loop-index.index = subst (λ n. n ≤ c.loop-index.index) (held_length c.args.forms.now c.args.senses.now of holds) c.loop-index-test.false in
    no_sense_left c.args.devices.now c.args.procedures.now _ (before_in c.loop-index.before) _ _ _ (drop_all c.loop-index.index of past) (c.loop-index.invariant of holds)
