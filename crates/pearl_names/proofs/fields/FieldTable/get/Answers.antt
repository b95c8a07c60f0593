use Rattle.std.proofs.Common.{Some, None, option_map, subst, ap, ◌∙◌}
use Rattle.pearl_names.specs.FieldEntries.{HasPlaces}
use Rattle.pearl_names.proofs.FieldPlaces.{field_found}
use Rattle.pearl_names.proofs.fields.FieldTable.get.Goals as goal

pub returns-in-Some-get_index : goal.returns-in-Some-get_index
returns-in-Some-get_index c =
    let places = c.self.inside.places.entries in
    let has = subst (λ s. HasPlaces s.entries places) c.self.view_is c.self.invariant in
    ap (option_map (λ entry. entry.1)) c.in-Some-get_index.ensures.entry
    ∙ field_found c.args.self.now.entries places c.args.text.now.items (Some c.in-Some.place) has c.in-Some.ensures

pub returns-in-None-get_index : goal.returns-in-None-get_index
returns-in-None-get_index c =
    let places = c.self.inside.places.entries in
    let has = subst (λ s. HasPlaces s.entries places) c.self.view_is c.self.invariant in
    ap (option_map (λ entry. entry.1)) c.in-None-get_index.ensures.entry
    ∙ field_found c.args.self.now.entries places c.args.text.now.items (Some c.in-Some.place) has c.in-Some.ensures

pub returns-in-None : goal.returns-in-None
returns-in-None c =
    let places = c.self.inside.places.entries in
    let has = subst (λ s. HasPlaces s.entries places) c.self.view_is c.self.invariant in
    field_found c.args.self.now.entries places c.args.text.now.items None has c.in-None.ensures
