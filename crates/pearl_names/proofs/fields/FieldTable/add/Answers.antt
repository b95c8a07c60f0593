use Rattle.std.proofs.Common.{◌≡◌, ◌++◌, ◌∷◌, [], length, is_some, false, true, sym, subst, ap, ◌∙◌}
use Rattle.pearl_names.specs.FieldEntries.{HasPlaces}
use Rattle.pearl_names.proofs.FieldPlaces.{is_fresh, places_push}
use Rattle.pearl_names.proofs.fields.FieldTable.add.Goals as goal

pub returns-then-is_some-clause-fresh : goal.returns-then-is_some-clause-fresh
returns-then-is_some-clause-fresh c =
    let places = c.self.inside.places.entries in
    let has = subst (λ s. HasPlaces s.entries places) c.self.view_is c.self.invariant in
    is_fresh c.args.self.now.entries places c.args.name.now.items true has
    (sym (c.is_some.ensures ∙ ap is_some c.number_at.ensures) ∙ c.if-is_some.true)

pub returns-in-Ok-clause-fresh : goal.returns-in-Ok-clause-fresh
returns-in-Ok-clause-fresh c =
    let places = c.self.inside.places.entries in
    let has = subst (λ s. HasPlaces s.entries places) c.self.view_is c.self.invariant in
    is_fresh c.args.self.now.entries places c.args.name.now.items false has
    (sym (c.is_some.ensures ∙ ap is_some c.number_at.ensures) ∙ c.if-is_some.false)

pub invariant_of-self-in-Ok : goal.invariant_of-self-in-Ok
invariant_of-self-in-Ok c =
    let entries = c.self.inside.entries.items in
    let grown : c.push.new.self.items ≡ entries ++ (c.args.name.now, c.args.field) ∷ [] =
    c.in_ok-push.ensures.items ∙ ap (λ key. entries ++ (key, c.args.field) ∷ []) c.in_ok-copy_text.ensures in
    subst (λ es. HasPlaces es c.note.new.first.entries) (sym grown)
    (places_push entries (c.args.name.now, c.args.field) c.in_ok-place.place c.self.inside.places.entries c.note.new.first.entries c.self.invariant
    (c.in_ok-place.ensures ∙ ap length c.as_slice.ensures.value) c.in-Ok.ensures.noted)
