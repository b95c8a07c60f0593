use Rattle.std.proofs.Common.{◌≡◌, map, refl, true≢false, subst, sym, ap, ◌∙◌}
use Rattle.std.specs.List.{flat_map}
use Rattle.std.specs.Option.{IsNone}
use Rattle.pearl_calls.specs.Cycles.{SomeCallsItself}
use Rattle.pearl_check.specs.Calls.{callers_of}
use Rattle.pearl_check.specs.Rules.{earlier_of, first}
use Rattle.pearl_check.specs.Sizes.{overweight}
use Rattle.pearl_check.specs.Weighing.{held_caller}
use Rattle.pearl_check.proofs.Firsts.{none_more, told_more}
use Rattle.pearl_check.proofs.TellingModules.{no_weights, all_weights}
use Rattle.pearl_check.proofs.first.tell_weights.Goals as goal

pub returns-in_default : goal.returns-in_default
returns-in_default c = λ procedures tasks held held_tasks.
    let some = c.requires.none.0 (subst IsNone (sym c.in_default.is) refl) in
    let cycle = subst SomeCallsItself held.callers some in
    sym (none_more c.args.told) ∙ ap (λ l. earlier_of c.args.told (first l)) (sym (no_weights procedures tasks cycle))

pub returns : goal.returns
returns c = λ procedures tasks held held_tasks.
    let callers : c.as_slice-procedures.result.now ≡ map held_caller procedures = c.as_slice-procedures.ensures.value ∙ held.callers in
    let none : SomeCallsItself (map held_caller procedures) → ⊥ = λ some.
    true≢false (subst IsNone c.in-Some.is (c.requires.none.1 (subst SomeCallsItself (sym held.callers) some))) in
    let one = c.tell_overweight-told.ensures procedures procedures callers (c.as_slice-2.ensures.value ∙ held.places) callers in
    let two = c.tell_overweight-told-2.ensures procedures tasks callers (c.as_slice-3.ensures.value ∙ held_tasks.places)
    (c.as_slice-4.ensures.value ∙ held_tasks.callers) in
    let heavy = flat_map (overweight (callers_of procedures)) in
    two ∙ sym (told_more c.args.told c.tell_overweight-told.result (heavy procedures) (heavy tasks) one)
    ∙ ap (λ l. earlier_of c.args.told (first l)) (sym (all_weights procedures tasks none))
