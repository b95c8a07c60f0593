-- What types come to where STRUCTs with one field are gone past.
use Rattle.std.proofs.Common.{◌≡◌, ℕ, ◌*◌, ℤ, List, [], ◌∷◌, ◌++◌, take, drop, slice_get, unwrap_or, Some, None, refl, sym, ap, subst, ◌∙◌, append_assoc, append-nil, arith}
use Rattle.std.proofs.lemmas.List.{take-append-drop}
use Rattle.std.proofs.lemmas.Option.{same_Some, none-some}
use Rattle.std.specs.Option.{option_and_then}
use Rattle.arrayvec.specs.ArrayVec.{ArrayVec}
use Rattle.pearl_names.specs.declared.types.Elements.{Elements}
use Rattle.pearl_names.specs.declared.types.FieldForm.{FieldForm}
use Rattle.pearl_names.specs.declared.types.StructForm.{StructForm}
use Rattle.pearl_names.specs.declared.types.TypeRef.{TypeRef}
use Rattle.pearl_names.specs.declared.types.TypeRef.TheVariants.{Basic, Struct}
use Rattle.pearl_names.specs.Chains.{one_of, end_of, end_of_field, only_end}
use Rattle.pearl_names.specs.Counts.{cut}
use Rattle.pearl_names.specs.Forms.{StandsFor, FieldsStand, EndsIn}
use Rattle.pearl_names.specs.Layout.{leaves_of, elements}
use Rattle.pearl_names.specs.Shapes.{Shape, OfKind, OfFields, Fields, NoField, MoreField}
use Rattle.pearl_names.proofs.Counting.{cut_mul, elements-append}
use Rattle.pearl_names.proofs.Standing.{stands_more}

-- a type that stays
ends_here : (forms : List StructForm) (part : TypeRef) (shape : Shape) → StandsFor forms part shape → EndsIn forms (one_of part) shape
ends_here forms part shape h = record {
  last = shape;
  path = [];
  bounds = [];
  stands = h;
  count = omega arith;
  leaves = λ behind around i. leaves_of (sym (append-nil behind) i) (sym (append-nil around) i) shape;
}

-- a STRUCT with one field, whose type comes to this
ends_behind : (forms : List StructForm) (number : ℕ) (field : FieldForm) (end : Elements) (name : List ℕ) (bounds : List (ℤ × ℤ)) (shape : Shape) →
    field.elements ≡ cut (elements bounds) → EndsIn (take number forms) end shape →
    EndsIn forms (record { part = end.part; count = cut (field.elements * end.count) }) (OfFields (MoreField name bounds shape NoField))
ends_behind forms number field end name bounds shape counted inner = record {
  last = inner.last;
  path = name ∷ inner.path;
  bounds = bounds ++ inner.bounds;
  stands = subst (λ l. StandsFor l end.part inner.last) (take-append-drop number forms) (stands_more (take number forms) (drop number forms) end.part inner.last inner.stands);
  count = (λ i. cut (counted i * inner.count i)) ∙ sym (cut_mul (elements bounds) (elements inner.bounds)) ∙ ap cut (sym all);
  leaves = λ before around.
      append-nil (leaves_of (before ++ name ∷ []) (around ++ bounds) shape) ∙ inner.leaves (before ++ name ∷ []) (around ++ bounds)
      ∙ (λ i. leaves_of (append_assoc before (name ∷ []) inner.path i) (append_assoc around bounds inner.bounds i) inner.last);
}
  where
    all : elements (bounds ++ inner.bounds) ≡ elements bounds * elements inner.bounds
    all = elements-append bounds inner.bounds

mutual
  unfolding StandsFor

  -- each type comes to its end
  pub ends_in : (forms : List StructForm) (part : TypeRef) (shape : Shape) → StandsFor forms part shape → EndsIn forms (end_of forms part) shape
  ends_in forms (Basic kind) (OfKind to) h = ends_here forms (Basic kind) (OfKind to) h
  ends_in forms (Struct number) (OfFields fields) h =
      let end : end_of forms (Struct number) ≡ unwrap_or (only_end (take number forms) h.0.fields.entries) (one_of (Struct number)) =
      (λ i. unwrap_or (option_and_then (λ form. form.end) (h.1 i)) (one_of (Struct number))) ∙ ap (λ e. unwrap_or e (one_of (Struct number))) h.6 in
      subst (λ e. EndsIn forms e (OfFields fields)) (sym end) (fields_end forms number h.0.fields.entries fields h h.2)
  ends_in forms (Basic kind) (OfFields fields) h = absurd h
  ends_in forms (Struct number) (OfKind kind) h = absurd h

  fields_end : (forms : List StructForm) (number : ℕ) (entries : List (ArrayVec ℕ × FieldForm)) (fields : Fields) → StandsFor forms (Struct number) (OfFields fields) →
      FieldsStand (take number forms) 0 0 entries fields → EndsIn forms (unwrap_or (only_end (take number forms) entries) (one_of (Struct number))) (OfFields fields)
  fields_end forms number [] NoField all h = ends_here forms (Struct number) (OfFields NoField) all
  fields_end forms number (entry ∷ []) (MoreField name bounds shape NoField) all h =
      ends_behind forms number entry.1 (end_of (take number forms) entry.1.part) name bounds shape h.0.count (ends_in (take number forms) entry.1.part shape h.1)
  fields_end forms number (entry ∷ other ∷ rest) (MoreField name bounds shape more) all h = ends_here forms (Struct number) (OfFields (MoreField name bounds shape more)) all
  fields_end forms number [] (MoreField name bounds shape more) all h = absurd h
  fields_end forms number (entry ∷ []) (MoreField name bounds shape (MoreField next own part more)) all h = absurd h.2
  fields_end forms number (entry ∷ entries) NoField all h = absurd h

-- fields of which there is one, several or none
pub one_field : (forms : List StructForm) (entries : List (ArrayVec ℕ × FieldForm)) (entry : ArrayVec ℕ × FieldForm) → slice_get entries 0 ≡ Some entry → slice_get entries 1 ≡ None →
    Some (end_of_field forms entry.1) ≡ only_end forms entries
one_field forms [] entry first second = absurd (none-some entry first)
one_field forms (x ∷ []) entry first second = ap (λ e. Some (end_of_field forms e.1)) (sym (same_Some x entry first))
one_field forms (x ∷ y ∷ rest) entry first second = absurd (none-some y (sym second))

pub several_fields : (forms : List StructForm) (entries : List (ArrayVec ℕ × FieldForm)) (entry : ArrayVec ℕ × FieldForm) → slice_get entries 1 ≡ Some entry → None ≡ only_end forms entries
several_fields forms [] entry second = refl
several_fields forms (x ∷ []) entry second = absurd (none-some entry second)
several_fields forms (x ∷ y ∷ rest) entry second = refl

pub no_fields : (forms : List StructForm) (entries : List (ArrayVec ℕ × FieldForm)) → slice_get entries 0 ≡ None → None ≡ only_end forms entries
no_fields forms [] first = refl
no_fields forms (x ∷ rest) first = absurd (none-some x (sym first))
