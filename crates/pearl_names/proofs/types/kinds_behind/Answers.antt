use Rattle.std.proofs.Common.{◌≡◌, Some, None, length, ◌-◌, refl, sym, ap, ◌∙◌}
use Rattle.std.proofs.lemmas.Option.{same_Some, none-some, slice_get_read, slice_get_past}
use Rattle.std.specs.List.{slice_get}
use Rattle.pearl_names.proofs.Standing.{tail_found}
use Rattle.pearl_names.proofs.types.kinds_behind.Goals as goal

pub returns-in-Some : goal.returns-in-Some
returns-in-Some c = λ forms fields h tails.
    let items = c.args.form.now.tails.items in
    let left = c.saturating_sub-left.result in
    let at : slice_get c.deref.result.now left ≡ Some c.in-Some.kinds.now = slice_get_read c.deref.result.now _ left c.in-Some.kinds.now refl c.in-Some.ensures.lookup.3.0 c.in-Some.ensures.lookup.1 in
    let there : left ≡ length c.args.form.now.fields.entries - c.args.next = c.saturating_sub-left.ensures ∙ ap (λ n. n - c.args.next) c.len.ensures in
    same_Some c.in-Some.kinds.now _ (sym at ∙ (λ i. slice_get (c.deref.ensures.value i) (there i)) ∙ tail_found forms c.args.form.now fields c.args.next h tails)

pub returns-in-None : goal.returns-in-None
returns-in-None c = λ forms fields h tails.
    let left = c.saturating_sub-left.result in
    let at : slice_get c.deref.result.now left ≡ None = slice_get_past c.deref.result.now left c.in-None.ensures.lookup.3 in
    let there : left ≡ length c.args.form.now.fields.entries - c.args.next = c.saturating_sub-left.ensures ∙ ap (λ n. n - c.args.next) c.len.ensures in
    absurd (none-some _ (sym at ∙ (λ i. slice_get (c.deref.ensures.value i) (there i)) ∙ tail_found forms c.args.form.now fields c.args.next h tails))
