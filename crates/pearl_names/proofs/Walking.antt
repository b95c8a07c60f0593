-- Walks over the slots of a variable: from a type to its first leaf, and from each leaf to the next.
use Rattle.std.proofs.Common.{◌≡◌, ℕ, zero, suc, ◌+◌, ◌*◌, ◌<◌, ◌≤◌, inl, inr, ⊎_elim, ℤ, true, false, nat_lt, List, [], ◌∷◌, ◌++◌, replicate, length, take, drop, get_or, slice_get, Option, Some, None, option_map, refl, sym, ap, subst, ◌∙◌, true≢false, append_assoc, append-nil, arith}
use Rattle.std.proofs.lemmas.Bool.Decides.{nat_tests}
use Rattle.std.proofs.lemmas.List.{take-append-drop}
use Rattle.std.proofs.lemmas.Option.{same_Some, none-some}
use Rattle.std.proofs.lemmas.List.Elements.{All-nil, All-push}
use Rattle.std.proofs.lemmas.Grind.{flat_map-append}
use Rattle.std.specs.List.{All, flat_map}
use Rattle.std.specs.Option.{option_and_then}
use Rattle.arrayvec.specs.ArrayVec.{ArrayVec}
use Rattle.pearl_value.specs.declared.kind.Kind.{Kind}
use Rattle.pearl_names.specs.declared.kinds.Kinds.{Kinds}
use Rattle.pearl_names.specs.declared.slots.Run.{Run}
use Rattle.pearl_names.specs.declared.slots.Slots.{Slots}
use Rattle.pearl_names.specs.declared.slots.Frame.{Frame}
use Rattle.pearl_names.specs.declared.slots.Left.{Left}
use Rattle.pearl_names.specs.declared.slots.Left.TheVariants.{FieldsFrom, Behind}
use Rattle.pearl_names.specs.declared.slots.NextField.{NextField}
use Rattle.pearl_names.specs.declared.slots.Way.{Way}
use Rattle.pearl_names.specs.declared.types.Begun.{Begun}
use Rattle.pearl_names.specs.declared.types.FieldForm.{FieldForm}
use Rattle.pearl_names.specs.declared.types.Leap.{Leap}
use Rattle.pearl_names.specs.declared.types.StructForm.{StructForm}
use Rattle.pearl_names.specs.declared.types.TypeRef.{TypeRef}
use Rattle.pearl_names.specs.declared.types.TypeRef.TheVariants.{Basic, Struct}
use Rattle.pearl_names.specs.Counts.{cut, counts, counts_of}
use Rattle.pearl_names.specs.Forms.{leaf_count, slot_count, StandsFor, FieldsStand}
use Rattle.pearl_names.specs.Kinds.{no_kinds, joined_kinds, kinds_among, has_kind}
use Rattle.pearl_names.specs.Layout.{elements, leaves_of_fields}
use Rattle.pearl_names.specs.Leaps.{inner_shape, times, behind_slots, leap_at, begun, one_step, TwoLeaps, two_steps, IsFar, LeapStands}
use Rattle.pearl_names.specs.Runs.{shape_slots, field_slots, AreFew, AreFewIn, drop_fields, tails_of}
use Rattle.pearl_names.specs.Shapes.{Shape, OfKind, OfFields, Fields, NoField, MoreField}
use Rattle.pearl_names.specs.Walks.{run_slots, HasSlots, left_slots, AreLeftFew, IsKept, HasLeft, AllLeft, GoesOn, IsNext, FindsNext, IsWay, FindsWay, left_weight, weight, Lists, kinds_of_next}
use Rattle.pearl_names.proofs.Building.{leaves_more}
use Rattle.pearl_names.proofs.Counting.{cut_mul}
use Rattle.pearl_names.proofs.KindSets.{kinds-append, kinds-run, no_kind_none}
use Rattle.pearl_names.proofs.Leaps.{some_both, slots_apart, few_inner, some_times, same_behind, behind_more, begins_at, leap_of_form, fields_below, leap_kept, leap_begun, leap_stands, far_steps}
use Rattle.pearl_names.proofs.ShapeSlots.{field_count, elements_some, some_within, same_kinds, same_kinds_in, no_slots, no_slots_in}
use Rattle.pearl_names.proofs.Standing.{slice_get_more, stands_more, fields_all, fields_counted, no_form}

-- the field at an index
pub record FieldAt (forms : List StructForm) (field : FieldForm) (fields : Fields) (i : ℕ) : Type 0 where
  pub name : List ℕ
  pub bounds : List (ℤ × ℤ)
  pub shape : Shape
  pub is : drop_fields i fields ≡ MoreField name bounds shape (drop_fields (suc i) fields)
  pub stands : StandsFor forms field.part shape
  pub count : field.elements ≡ cut (elements bounds)

pub field_there : (forms : List StructForm) (leaves slots : ℕ) (entries : List (ArrayVec ℕ × FieldForm)) (fields : Fields) (i : ℕ) (entry : ArrayVec ℕ × FieldForm) →
    FieldsStand forms leaves slots entries fields → slice_get entries i ≡ Some entry → FieldAt forms entry.1 fields i
unfolding StandsFor
field_there forms leaves slots [] NoField i entry h e = absurd (none-some entry e)
field_there forms leaves slots (x ∷ entries) (MoreField name bounds shape rest) zero entry h e =
    let same : x ≡ entry = same_Some x entry e in
    subst (λ y. FieldAt forms y.1 (MoreField name bounds shape rest) 0) same
    (record { name = name; bounds = bounds; shape = shape; is = refl; stands = h.1; count = h.0.count })
field_there forms leaves slots (x ∷ entries) (MoreField name bounds shape rest) (suc i) entry h e =
    let r = field_there forms (leaves + leaf_count shape) (slots + slot_count bounds shape) entries rest i entry h.2 e in
    record { name = r.name; bounds = r.bounds; shape = r.shape; is = r.is; stands = r.stands; count = r.count }
field_there forms leaves slots [] (MoreField name bounds shape rest) i entry h e = absurd h
field_there forms leaves slots (x ∷ entries) NoField i entry h e = absurd h

drop_none : (i : ℕ) → drop_fields i NoField ≡ NoField
drop_none zero = refl
drop_none (suc i) = refl

pub no_field : (forms : List StructForm) (leaves slots : ℕ) (entries : List (ArrayVec ℕ × FieldForm)) (fields : Fields) (i : ℕ) →
    FieldsStand forms leaves slots entries fields → slice_get entries i ≡ None → drop_fields i fields ≡ NoField
unfolding StandsFor
no_field forms leaves slots [] NoField i h e = drop_none i
no_field forms leaves slots (x ∷ entries) (MoreField name bounds shape rest) zero h e = absurd (none-some x (sym e))
no_field forms leaves slots (x ∷ entries) (MoreField name bounds shape rest) (suc i) h e =
    no_field forms (leaves + leaf_count shape) (slots + slot_count bounds shape) entries rest i h.2 e
no_field forms leaves slots [] (MoreField name bounds shape rest) i h e = absurd h
no_field forms leaves slots (x ∷ entries) NoField i h e = absurd h

above_zero : (n : ℕ) → nat_lt 0 (suc n) ≡ true
above_zero n = grind (arith, nat_tests)

abbrev leaves_in : Fields → ℕ
leaves_in fields = length (leaves_of_fields [] [] fields)

-- the fields from one index up to another have no leaves
pub record Skips (fields : Fields) (from to : ℕ) : Type 0 where
  pub slots : (n : ℕ) → field_slots n (drop_fields from fields) ≡ field_slots n (drop_fields to fields)
  pub few : (n : ℕ) → AreFewIn n (drop_fields from fields) → AreFewIn n (drop_fields to fields)
  pub leaves : leaves_in (drop_fields from fields) ≡ leaves_in (drop_fields to fields)

pub skips_none : (fields : Fields) (from : ℕ) → Skips fields from from
skips_none fields from = record { slots = λ n. refl; few = λ n h. h; leaves = refl }

pub skips_more : (forms : List StructForm) (field : FieldForm) (fields : Fields) (from to after : ℕ) → after ≡ to + 1 → FieldAt forms field fields to → Skips fields from to →
    ((shape : Shape) → StandsFor forms field.part shape → false ≡ nat_lt 0 (leaf_count shape)) → Skips fields from after
skips_more forms field fields from to after next at so leafless =
    let e : after ≡ suc to = omega (arith, next) in
    let none : leaf_count at.shape ≡ 0 = zero_leaves (leaf_count at.shape) (leafless at.shape at.stands) in
    subst (Skips fields from) (sym e) (record {
      slots = λ n. so.slots n ∙ ap (field_slots n) at.is ∙ ap (λ l. l ++ field_slots n (drop_fields (suc to) fields)) (no_slots [] [] (n * elements at.bounds) at.shape none);
      few = λ n h. (subst (AreFewIn n) at.is (so.few n h)).1;
      leaves = so.leaves ∙ ap leaves_in at.is ∙ leaves_more at.name at.bounds at.shape (drop_fields (suc to) fields) ∙ only none;
    })
  where
    zero_leaves : (n : ℕ) → false ≡ nat_lt 0 n → n ≡ 0
    zero_leaves zero h = refl
    zero_leaves (suc n) h = absurd (true≢false (sym (h ∙ above_zero n)))

    only : {n m : ℕ} → n ≡ 0 → n + m ≡ m
    only {n} {m} h = omega (arith, h)

pub skips_found : (forms : List StructForm) (field : FieldForm) (fields : Fields) (from to after : ℕ) → after ≡ to + 1 → FieldAt forms field fields to → Skips fields from to →
    ((shape : Shape) → StandsFor forms field.part shape → true ≡ nat_lt 0 (leaf_count shape)) → IsNext forms (record { field = field; after = after }) fields from
skips_found forms field fields from to after next at so leafy =
    let e : after ≡ suc to = omega (arith, next) in
    subst (λ a. IsNext forms (record { field = field; after = a }) fields from) (sym e) (record {
      bounds = at.bounds;
      shape = at.shape;
      stands = at.stands;
      count = at.count;
      leaf = some_leaf (leaf_count at.shape) (leafy at.shape at.stands);
      few = λ n h. subst (AreFewIn n) at.is (so.few n h);
      slots = λ n. so.slots n ∙ ap (field_slots n) at.is;
    })
  where
    some_leaf : (n : ℕ) → true ≡ nat_lt 0 n → 1 ≤ n
    some_leaf zero h = absurd (true≢false h)
    some_leaf (suc n) h = omega arith

pub skips_all : (fields : Fields) (from to : ℕ) → Skips fields from to → drop_fields to fields ≡ NoField → leaves_in (drop_fields from fields) ≡ 0
skips_all fields from to so none = so.leaves ∙ ap leaves_in none

-- what is left, with one frame more within
pub left_more : (forms : List StructForm) (frames : List Frame) (frame : Frame) (own rest : List Kind) → HasLeft forms frame own → AllLeft forms frames rest →
    AllLeft forms (frames ++ frame ∷ []) (own ++ rest)
left_more forms [] frame own rest has none = ([], own, refl, has, ap (λ l. own ++ l) none ∙ append-nil own)
left_more forms (f ∷ frames) frame own rest has h =
    (own ++ h.0, h.1, left_more forms frames frame own h.0 has h.2, h.3, ap (λ l. own ++ l) h.4 ∙ sym (append_assoc own h.0 h.1))

-- and the innermost one apart
pub record Apart (forms : List StructForm) (frames : List Frame) (frame : Frame) (slots : List Kind) : Type 0 where
  pub own : List Kind
  pub rest : List Kind
  pub has : HasLeft forms frame own
  pub left : AllLeft forms frames rest
  pub is : slots ≡ own ++ rest

pub left_apart : (forms : List StructForm) (frames : List Frame) (frame : Frame) (slots : List Kind) → AllLeft forms (frames ++ frame ∷ []) slots → Apart forms frames frame slots
left_apart forms [] frame slots h = record { own = h.1; rest = []; has = h.3; left = refl; is = h.4 ∙ ap (λ l. l ++ h.1) h.2 ∙ sym (append-nil h.1) }
left_apart forms (f ∷ frames) frame slots h =
    let r = left_apart forms frames frame h.0 h.2 in record {
      own = r.own;
      rest = r.rest ++ h.1;
      has = r.has;
      left = (r.rest, h.1, r.left, h.3, refl);
      is = h.4 ∙ ap (λ l. l ++ h.1) r.is ∙ append_assoc r.own r.rest h.1;
    }

-- a walk down: the type that it has come to stands among the earlier forms
pub record Descends (forms earlier : List StructForm) (part : TypeRef) (count : ℕ) (frames : List Frame) (slots : List Kind) : Type 0 where
  pub later : List StructForm
  pub prefix : forms ≡ earlier ++ later
  pub own : List Kind
  pub rest : List Kind
  pub found : HasSlots earlier part count own
  pub leaf : 1 ≤ leaf_count found.shape
  pub left : AllLeft forms frames rest
  pub is : slots ≡ own ++ rest

pub descends_first : (forms : List StructForm) (part : TypeRef) (count : ℕ) (frames : List Frame) (own rest : List Kind) (found : HasSlots forms part count own) → 1 ≤ leaf_count found.shape →
    AllLeft forms frames rest → Descends forms forms part count frames (own ++ rest)
descends_first forms part count frames own rest found leaf left =
    record { later = []; prefix = sym (append-nil forms); own = own; rest = rest; found = found; leaf = leaf; left = left; is = refl }

-- to the first leaf
pub descends_last : (forms earlier : List StructForm) (kind : Kind) (count : ℕ) (frames : List Frame) (slots : List Kind) →
    Descends forms earlier (Basic kind) count frames slots → GoesOn forms (Some (record { kind = kind; count = count })) frames slots
unfolding StandsFor
descends_last forms earlier kind count frames slots down = by down.found.shape down.found.stands down.found.few down.found.is
  where
    by : (shape : Shape) → StandsFor earlier (Basic kind) shape → AreFew down.found.many shape → down.own ≡ shape_slots down.found.many shape →
        GoesOn forms (Some (record { kind = kind; count = count })) frames slots
    by (OfKind to) stands few is =
        let counted = down.found.counted in
        let some = down.found.some in
        let same : count ≡ down.found.many = omega (arith, counted, few) in
        (down.rest, down.left, omega (arith, same, some), down.is ∙ ap (λ l. l ++ down.rest) (is ∙ (λ i. replicate (sym same i) (sym stands i))))
    by (OfFields fields) stands few is = absurd stands

-- the shape of a STRUCT
record OfStructs (forms : List StructForm) (number : ℕ) (shape : Shape) : Type 0 where
  pub fields : Fields
  pub is : shape ≡ OfFields fields

struct_fields : (forms : List StructForm) (number : ℕ) (shape : Shape) → StandsFor forms (Struct number) shape → OfStructs forms number shape
unfolding StandsFor
struct_fields forms number (OfKind kind) h = absurd h
struct_fields forms number (OfFields fields) h = record { fields = fields; is = refl }

pub no_descent : (forms earlier : List StructForm) (number count : ℕ) (frames : List Frame) (slots : List Kind) → Descends forms earlier (Struct number) count frames slots →
    slice_get earlier number ≡ None → ⊥
no_descent forms earlier number count frames slots down at =
    let s = struct_fields earlier number down.found.shape down.found.stands in
    no_form earlier number s.fields at (subst (StandsFor earlier (Struct number)) s.is down.found.stands)

pub no_next : (forms earlier : List StructForm) (number count : ℕ) (frames : List Frame) (slots : List Kind) (form : StructForm) → Descends forms earlier (Struct number) count frames slots →
    slice_get earlier number ≡ Some form →
    ((fields : Fields) → FieldsStand (take number earlier) 0 0 form.fields.entries fields → LeapStands (take number earlier) form.leap form.fields.entries fields →
    FindsWay (take number earlier) form.leap None fields) → ⊥
no_next forms earlier number count frames slots form down at none =
    let s = struct_fields earlier number down.found.shape down.found.stands in
    let stands = subst (StandsFor earlier (Struct number)) s.is down.found.stands in
    let leaf : 1 ≤ leaf_count (OfFields s.fields) = subst (λ shape. 1 ≤ leaf_count shape) s.is down.leaf in
    let zero_leaves = none s.fields (fields_below earlier number form s.fields at stands) (leap_of_form earlier number form s.fields at stands) in
    absurd (omega (arith, leaf, zero_leaves))

-- the leap that is kept with a form of the first ones is that among all
kept_all : (forms earlier later : List StructForm) (number : ℕ) (form : StructForm) (left : Left) → forms ≡ earlier ++ later → slice_get earlier number ≡ Some form →
    IsKept form.leap left → IsKept (leap_at forms number) left
kept_all forms earlier later number form left prefix at kept =
    let there : slice_get forms number ≡ Some form =
    subst (λ l. slice_get l number ≡ Some form) (sym prefix) (slice_get_more earlier later number form at) in
    subst (λ leap. IsKept leap left) (sym (ap (option_and_then (λ (f : StructForm). f.leap)) there)) kept

pub descends_more : (forms earlier : List StructForm) (number count : ℕ) (frames : List Frame) (slots : List Kind) (form : StructForm) (way : Way) →
    Descends forms earlier (Struct number) count frames slots → slice_get earlier number ≡ Some form →
    ((fields : Fields) → FieldsStand (take number earlier) 0 0 form.fields.entries fields → LeapStands (take number earlier) form.leap form.fields.entries fields →
    FindsWay (take number earlier) form.leap (Some way) fields) →
    Descends forms (take number earlier) way.to.part (cut (count * way.to.count))
    (frames ++ record { number = number; left = way.left; count = count } ∷ []) slots
descends_more forms earlier number count frames slots form way down at finds =
    let s = struct_fields earlier number down.found.shape down.found.stands in
    let stands = subst (StandsFor earlier (Struct number)) s.is down.found.stands in
    let is = finds s.fields (fields_below earlier number form s.fields at stands) (leap_of_form earlier number form s.fields at stands) in
    let many = down.found.many in
    let few = is.few many (subst (AreFew many) s.is down.found.few) in
    let inner = many * is.each in
    let behind = left_slots way.left many s.fields in
    let frame : Frame = record { number = number; left = way.left; count = count } in
    let has : HasLeft forms frame behind = record {
      fields = s.fields;
      many = many;
      stands = subst (λ l. StandsFor l (Struct number) (OfFields s.fields)) (sym down.prefix) (stands_more earlier down.later (Struct number) (OfFields s.fields) stands);
      counted = down.found.counted;
      some = down.found.some;
      few = few.1;
      kept = kept_all forms earlier down.later number form way.left down.prefix at is.kept;
      is = refl;
    } in record {
      later = drop number earlier ++ down.later;
      prefix = down.prefix ∙ ap (λ l. l ++ down.later) (sym (take-append-drop number earlier)) ∙ append_assoc (take number earlier) (drop number earlier) down.later;
      own = shape_slots inner is.inner;
      rest = behind ++ down.rest;
      found = record {
        shape = is.inner;
        many = inner;
        stands = is.stands;
        counted = (λ i. cut (down.found.counted i * is.count i)) ∙ sym (cut_mul many is.each);
        some = some_both many is.each down.found.some is.some;
        few = few.0;
        is = refl;
      };
      leaf = is.leaf;
      left = left_more forms frames frame behind down.rest has down.left;
      is = down.is ∙ ap (λ l. l ++ down.rest) (down.found.is ∙ ap (shape_slots many) s.is ∙ is.slots many) ∙ append_assoc (shape_slots inner is.inner) behind down.rest;
    }

-- the way by the leap that is kept, and where none is into a field
pub way_by_leap : (forms : List StructForm) (leap : Leap) (entries : List (ArrayVec ℕ × FieldForm)) (fields : Fields) → FieldsStand forms 0 0 entries fields →
    LeapStands forms (Some leap) entries fields → IsWay forms (Some leap) (record { left = Behind leap.steps; to = leap.to }) fields
way_by_leap forms leap entries fields h so =
    let leads = leap_stands forms entries fields leap h so in record {
      inner = inner_shape leap.steps (OfFields fields);
      each = times leap.steps (OfFields fields);
      stands = leads.stands;
      count = leads.count;
      some = some_times leap.steps (OfFields fields);
      leaf = leads.leaf;
      few = λ n h. (few_inner leap.steps n (OfFields fields) h, h);
      kept = refl;
      slots = λ n. slots_apart leap.steps n (OfFields fields);
    }

pub way_by_field : (forms : List StructForm) (next : NextField) (fields : Fields) → IsNext forms next fields 0 →
    IsWay forms None (record { left = FieldsFrom next.after; to = record { part = next.field.part; count = next.field.elements } }) fields
way_by_field forms next fields is = record {
  inner = is.shape;
  each = elements is.bounds;
  stands = is.stands;
  count = is.count;
  some = elements_some is.bounds;
  leaf = is.leaf;
  few = is.few;
  kept = tt;
  slots = is.slots;
}

-- a leap that is known to be kept
record KeptLeap (leap : Option Leap) (steps : ℕ) : Type 0 where
  pub own : Leap
  pub is : leap ≡ Some own
  pub steps_are : own.steps ≡ steps

kept_leap : (leap : Option Leap) (steps : ℕ) → IsKept leap (Behind steps) → KeptLeap leap steps
kept_leap None steps h = absurd (none-some steps h)
kept_leap (Some leap) steps h = record { own = leap; is = refl; steps_are = same_Some leap.steps steps h }

-- what is behind a leap
pub behind_kinds : (forms : List StructForm) (frame : Frame) (steps : ℕ) (slots : List Kind) (answer : Kinds) → frame.left ≡ Behind steps → HasLeft forms frame slots →
    ((leap : Leap) → leap_at forms frame.number ≡ Some leap → answer ≡ leap.behind) → answer ≡ kinds_among slots
behind_kinds forms frame steps slots answer behind has tells =
    let whole = OfFields has.fields in
    let kept = kept_leap (leap_at forms frame.number) steps (subst (IsKept (leap_at forms frame.number)) behind has.kept) in
    let leads = leap_kept forms frame.number has.fields kept.own kept.is has.stands in
    tells kept.own kept.is ∙ leads.behind ∙ ap (λ k. kinds_among (behind_slots k 1 whole)) kept.steps_are
    ∙ same_behind steps 1 has.many whole (omega arith) has.some
    ∙ ap kinds_among (sym (has.is ∙ ap (λ l. left_slots l has.many has.fields) behind))

-- there is none
pub nothing_behind : (forms : List StructForm) (frames : List Frame) (frame : Frame) (steps : ℕ) (slots : List Kind) (kinds : Kinds) → frame.left ≡ Behind steps →
    AllLeft forms (frames ++ frame ∷ []) slots → ((leap : Leap) → leap_at forms frame.number ≡ Some leap → kinds ≡ leap.behind) → has_kind kinds ≡ false → AllLeft forms frames slots
nothing_behind forms frames frame steps slots kinds behind h tells none =
    let a = left_apart forms frames frame slots h in
    let empty : a.own ≡ [] = no_kind_none a.own (ap has_kind (sym (behind_kinds forms frame steps a.own kinds behind a.has tells)) ∙ none) in
    subst (AllLeft forms frames) (sym (a.is ∙ ap (λ l. l ++ a.rest) empty)) a.left

-- or it is put apart: what is behind the first field, and before that what is behind two leaps from it
pub record HasTwo (forms : List StructForm) (part : TypeRef) (steps many : ℕ) (shape : Shape) (slots : List Kind) : Type 0 where
  pub two : TwoLeaps forms part
  pub fewer : two_steps two < steps
  pub is : slots ≡ behind_slots (two_steps two) many shape

pub record Parted (forms : List StructForm) (number steps count : ℕ) (entry : ArrayVec ℕ × FieldForm) (own : List Kind) : Type 0 where
  pub last : List Kind
  pub left : HasLeft forms (record { number = number; left = FieldsFrom 1; count = count }) last
  pub shape : Shape
  pub many : ℕ
  pub stands : StandsFor forms entry.1.part shape
  pub counted : cut (count * entry.1.elements) ≡ cut many
  pub some : 1 ≤ many
  pub few : AreFew many shape
  pub more : List Kind
  pub is : own ≡ more ++ last
  pub short : steps ≤ 1 → more ≡ []
  pub long : 1 < steps → HasTwo forms entry.1.part steps many shape more

parted_with : (forms : List StructForm) (number steps count many n : ℕ) (entry : ArrayVec ℕ × FieldForm) (entries : List (ArrayVec ℕ × FieldForm)) (name : List ℕ) (bounds : List (ℤ × ℤ)) (shape : Shape) (rest : Fields) →
    StandsFor forms (Struct number) (OfFields (MoreField name bounds shape rest)) → count ≡ cut many → 1 ≤ many → AreFewIn many (MoreField name bounds shape rest) →
    FieldsStand (take number forms) 0 0 (entry ∷ entries) (MoreField name bounds shape rest) → steps ≡ suc n →
    (1 < steps → HasTwo forms entry.1.part steps (many * elements bounds) shape (behind_slots n (many * elements bounds) shape)) →
    Parted forms number steps count entry (behind_slots steps many (OfFields (MoreField name bounds shape rest)))
unfolding StandsFor
parted_with forms number steps count many n entry entries name bounds shape rest stands counted some few h e long = record {
  last = field_slots many rest;
  left = record { fields = MoreField name bounds shape rest; many = many; stands = stands; counted = counted; some = some; few = few.1; kept = tt; is = refl };
  shape = shape;
  many = many * elements bounds;
  stands = subst (λ l. StandsFor l entry.1.part shape) (take-append-drop number forms) (stands_more (take number forms) (drop number forms) entry.1.part shape h.1);
  counted = (λ i. cut (counted i * h.0.count i)) ∙ sym (cut_mul many (elements bounds));
  some = some_within many bounds some;
  few = few.0;
  more = behind_slots n (many * elements bounds) shape;
  is = ap (λ k. behind_slots k many (OfFields (MoreField name bounds shape rest))) e;
  short = λ below. ap (λ k. behind_slots k (many * elements bounds) shape) (let z : n ≡ 0 = omega (arith, e, below) in z);
  long = long;
}

parted_fields : (forms : List StructForm) (number steps count many : ℕ) (leap : Leap) (entries : List (ArrayVec ℕ × FieldForm)) (fields : Fields) (entry : ArrayVec ℕ × FieldForm) →
    StandsFor forms (Struct number) (OfFields fields) → count ≡ cut many → 1 ≤ many → AreFewIn many fields → slice_get entries 0 ≡ Some entry →
    FieldsStand (take number forms) 0 0 entries fields → LeapStands (take number forms) (Some leap) entries fields → leap.steps ≡ steps →
    Parted forms number steps count entry (behind_slots steps many (OfFields fields))
unfolding StandsFor
parted_fields forms number steps count many leap [] fields entry stands counted some few at h so is = absurd (none-some entry at)
parted_fields forms number steps count many leap (x ∷ entries) NoField entry stands counted some few at h so is = absurd h
parted_fields forms number steps count many leap (x ∷ entries) (MoreField name bounds shape rest) entry stands counted some few at h so is =
    let own = behind_slots steps many (OfFields (MoreField name bounds shape rest)) in
    let one = one_step x.1 (kinds_among (field_slots 1 rest)) in
    subst (λ e. Parted forms number steps count e own) (same_Some x entry at) (⊎_elim
    (λ (same : leap ≡ one).
    let e : steps ≡ 1 = sym is ∙ ap (λ (l : Leap). l.steps) same in
    parted_with forms number steps count many 0 x entries name bounds shape rest stands counted some few h e (λ long. absurd (omega (arith, e, long))))
    (λ (far : IsFar (take number forms) one leap).
    let further = far_steps forms number one leap refl far in
    let n = two_steps further.two in
    let e : steps ≡ suc n = sym is ∙ further.steps_are in
    parted_with forms number steps count many n x entries name bounds shape rest stands counted some few h e
    (λ long. record { two = further.two; fewer = omega (arith, e); is = refl }))
    so.0)

pub parted : (forms : List StructForm) (number steps count : ℕ) (own : List Kind) (form : StructForm) (entry : ArrayVec ℕ × FieldForm) →
    HasLeft forms (record { number = number; left = Behind steps; count = count }) own → slice_get forms number ≡ Some form → slice_get form.fields.entries 0 ≡ Some entry →
    Parted forms number steps count entry own
parted forms number steps count own form entry has at first =
    let there : leap_at forms number ≡ form.leap = ap (option_and_then (λ (f : StructForm). f.leap)) at in
    let kept = kept_leap form.leap steps (subst (λ leap. IsKept leap (Behind steps)) there has.kept) in
    subst (Parted forms number steps count entry) (sym has.is)
    (parted_fields forms number steps count has.many kept.own form.fields.entries has.fields entry has.stands has.counted has.some has.few first
    (fields_below forms number form has.fields at has.stands)
    (subst (λ leap. LeapStands (take number forms) leap form.fields.entries has.fields) kept.is (leap_of_form forms number form has.fields at has.stands)) kept.steps_are)

pub no_behind : (forms : List StructForm) (frame : Frame) (own : List Kind) → HasLeft forms frame own → slice_get forms frame.number ≡ None → ⊥
no_behind forms frame own has at = no_form forms frame.number has.fields at has.stands

pub no_first : (forms : List StructForm) (number steps count : ℕ) (own : List Kind) (form : StructForm) →
    HasLeft forms (record { number = number; left = Behind steps; count = count }) own → slice_get forms number ≡ Some form → slice_get form.fields.entries 0 ≡ None → ⊥
no_first forms number steps count own form has at first =
    let there : leap_at forms number ≡ form.leap = ap (option_and_then (λ (f : StructForm). f.leap)) at in
    let kept = kept_leap form.leap steps (subst (λ leap. IsKept leap (Behind steps)) there has.kept) in
    by kept.own form.fields.entries has.fields first
    (subst (λ leap. LeapStands (take number forms) leap form.fields.entries has.fields) kept.is (leap_of_form forms number form has.fields at has.stands))
  where
    by : (leap : Leap) (entries : List (ArrayVec ℕ × FieldForm)) (fields : Fields) → slice_get entries 0 ≡ None → LeapStands (take number forms) (Some leap) entries fields → ⊥
    by leap [] NoField first so = so
    by leap [] (MoreField name bounds shape rest) first so = so
    by leap (x ∷ entries) fields first so = absurd (none-some x (sym first))

-- what is behind a leap, where a walk is within so many elements of its type
begun_left : (forms : List StructForm) (part : TypeRef) (count many : ℕ) (shape : Shape) (found : Begun) → begun forms part ≡ Some found → StandsFor forms part shape →
    count ≡ cut many → 1 ≤ many → AreFew many shape →
    HasLeft forms (record { number = found.number; left = Behind found.leap.steps; count = count }) (behind_slots found.leap.steps many shape)
unfolding StandsFor
begun_left forms part count many (OfFields fields) found is stands counted some few =
    let at = begins_at forms part found is in record {
      fields = fields;
      many = many;
      stands = subst (λ p. StandsFor forms p (OfFields fields)) at.part_is stands;
      counted = counted;
      some = some;
      few = few;
      kept = ap (option_map (λ (l : Leap). l.steps)) at.leap_is;
      is = refl;
    }
begun_left forms part count many (OfKind kind) found is stands counted some few =
    let at = begins_at forms part found is in
    absurd (subst (λ p. StandsFor forms p (OfKind kind)) at.part_is stands)

pub two_left : (forms : List StructForm) (part : TypeRef) (count : ℕ) (frames : List Frame) (slots rest : List Kind) (found : HasSlots forms part count slots) (near next : Begun) →
    begun forms part ≡ Some near → begun forms near.leap.to.part ≡ Some next → AllLeft forms frames rest →
    AllLeft forms ((frames ++ record { number = near.number; left = Behind near.leap.steps; count = count } ∷ [])
    ++ record { number = next.number; left = Behind next.leap.steps; count = cut (count * near.leap.to.count) } ∷ [])
    (behind_slots (near.leap.steps + next.leap.steps) found.many found.shape ++ rest)
two_left forms part count frames slots rest found near next near_is next_is left =
    let many = found.many in
    let shape = found.shape in
    let a = near.leap.steps in
    let b = next.leap.steps in
    let inner = inner_shape a shape in
    let part_behind = behind_slots a many shape in
    let far_count = cut (count * near.leap.to.count) in
    let one : Frame = record { number = near.number; left = Behind a; count = count } in
    let other : Frame = record { number = next.number; left = Behind b; count = far_count } in
    let leads = leap_begun forms part shape near near_is found.stands in
    let first : AllLeft forms (frames ++ one ∷ []) (part_behind ++ rest) =
    left_more forms frames one part_behind rest (begun_left forms part count many shape near near_is found.stands found.counted found.some found.few) left in
    let second : AllLeft forms ((frames ++ one ∷ []) ++ other ∷ []) (behind_slots b (many * times a shape) inner ++ (part_behind ++ rest)) =
    left_more forms (frames ++ one ∷ []) other (behind_slots b (many * times a shape) inner) (part_behind ++ rest)
    (begun_left forms near.leap.to.part far_count (many * times a shape) inner next next_is leads.stands
    ((λ i. cut (found.counted i * leads.count i)) ∙ sym (cut_mul many (times a shape)))
    (some_both many (times a shape) found.some (some_times a shape)) (few_inner a many shape found.few)) first in
    subst (AllLeft forms ((frames ++ one ∷ []) ++ other ∷ []))
    (sym (append_assoc (behind_slots b (many * times a shape) inner) part_behind rest) ∙ ap (λ l. l ++ rest) (sym (behind_more a b many shape))) second

-- two leaps from a type are those that are found
pub same_near : (forms : List StructForm) (part : TypeRef) (near : Begun) → begun forms part ≡ Some near → (two : TwoLeaps forms part) → two.near ≡ near
same_near forms part near is two = same_Some two.near near (sym two.near_is ∙ is)

pub same_next : (forms : List StructForm) (part : TypeRef) (near next : Begun) → begun forms part ≡ Some near → begun forms near.leap.to.part ≡ Some next → (two : TwoLeaps forms part) → two.next ≡ next
same_next forms part near next is so two =
    same_Some two.next next (sym two.next_is ∙ ap (λ (b : Begun). begun forms b.leap.to.part) (same_near forms part near is two) ∙ so)

pub same_steps : (forms : List StructForm) (part : TypeRef) (near next : Begun) → begun forms part ≡ Some near → begun forms near.leap.to.part ≡ Some next → (two : TwoLeaps forms part) →
    two_steps two ≡ near.leap.steps + next.leap.steps
same_steps forms part near next is so two = λ i. (same_near forms part near is two i).leap.steps + (same_next forms part near next is so two i).leap.steps

-- a frame more weighs so much more
pub weight_more : (frames : List Frame) (frame : Frame) → weight (frames ++ frame ∷ []) ≡ weight frames + left_weight frame.left
weight_more [] frame = omega arith
weight_more (f ∷ frames) frame = let e = weight_more frames frame in omega (arith, e)

pub popped_weight : (old frames : List Frame) (frame : Frame) (left : Left) → old ≡ frames ++ frame ∷ [] → frame.left ≡ left → weight old ≡ weight frames + left_weight left
popped_weight old frames frame left is so = ap weight is ∙ weight_more frames frame ∙ ap (λ l. weight frames + left_weight l) so

-- a STRUCT that has no leaves left
pub frame_gone : (forms : List StructForm) (frames : List Frame) (frame : Frame) (slots : List Kind) → AllLeft forms (frames ++ frame ∷ []) slots → slice_get forms frame.number ≡ None → ⊥
frame_gone forms frames frame slots h at =
    let a = left_apart forms frames frame slots h in
    no_form forms frame.number a.has.fields at a.has.stands

fields_in : (forms : List StructForm) (number : ℕ) (form : StructForm) (fields : Fields) → slice_get forms number ≡ Some form → StandsFor forms (Struct number) (OfFields fields) →
    FieldsStand forms 0 0 form.fields.entries fields
fields_in forms number form fields at h = fields_all forms number 0 0 form.fields.entries fields (fields_below forms number form fields at h)

pub frame_done : (forms : List StructForm) (frames : List Frame) (frame : Frame) (from : ℕ) (form : StructForm) (slots : List Kind) → frame.left ≡ FieldsFrom from →
    AllLeft forms (frames ++ frame ∷ []) slots → slice_get forms frame.number ≡ Some form →
    ((fields : Fields) → FieldsStand forms 0 0 form.fields.entries fields → FindsNext forms None fields from) → AllLeft forms frames slots
frame_done forms frames frame from form slots behind h at none =
    let a = left_apart forms frames frame slots h in
    let no_leaf = none a.has.fields (fields_in forms frame.number form a.has.fields at a.has.stands) in
    let empty : a.own ≡ [] = a.has.is ∙ ap (λ l. left_slots l a.has.many a.has.fields) behind ∙ no_slots_in [] [] a.has.many (drop_fields from a.has.fields) no_leaf in
    subst (AllLeft forms frames) (sym (a.is ∙ ap (λ l. l ++ a.rest) empty)) a.left

-- one that has a field with leaves left
pub record Onward (forms : List StructForm) (part : TypeRef) (count : ℕ) (frames : List Frame) (slots : List Kind) : Type 0 where
  pub own : List Kind
  pub rest : List Kind
  pub found : HasSlots forms part count own
  pub leaf : 1 ≤ leaf_count found.shape
  pub left : AllLeft forms frames rest
  pub is : slots ≡ own ++ rest

pub frame_next : (forms : List StructForm) (frames : List Frame) (frame : Frame) (from : ℕ) (form : StructForm) (next : NextField) (slots : List Kind) → frame.left ≡ FieldsFrom from →
    AllLeft forms (frames ++ frame ∷ []) slots → slice_get forms frame.number ≡ Some form →
    ((fields : Fields) → FieldsStand forms 0 0 form.fields.entries fields → FindsNext forms (Some next) fields from) →
    Onward forms next.field.part (cut (frame.count * next.field.elements)) (frames ++ record frame { left = FieldsFrom next.after } ∷ []) slots
frame_next forms frames frame from form next slots behind h at finds =
    let a = left_apart forms frames frame slots h in
    let is = finds a.has.fields (fields_in forms frame.number form a.has.fields at a.has.stands) in
    let many = a.has.many in
    let few = is.few many (subst (λ l. AreLeftFew l many a.has.fields) behind a.has.few) in
    let rest = field_slots many (drop_fields next.after a.has.fields) in
    let has : HasLeft forms (record frame { left = FieldsFrom next.after }) rest = record {
      fields = a.has.fields;
      many = many;
      stands = a.has.stands;
      counted = a.has.counted;
      some = a.has.some;
      few = few.1;
      kept = tt;
      is = refl;
    } in record {
      own = shape_slots (many * elements is.bounds) is.shape;
      rest = rest ++ a.rest;
      found = record {
        shape = is.shape;
        many = many * elements is.bounds;
        stands = is.stands;
        counted = (λ i. cut (a.has.counted i * is.count i)) ∙ sym (cut_mul many (elements is.bounds));
        some = some_within many is.bounds a.has.some;
        few = few.0;
        is = refl;
      };
      leaf = is.leaf;
      left = left_more forms frames (record frame { left = FieldsFrom next.after }) rest a.rest has a.left;
      is = a.is ∙ ap (λ l. l ++ a.rest) (a.has.is ∙ ap (λ l. left_slots l many a.has.fields) behind ∙ is.slots many)
          ∙ append_assoc (shape_slots (many * elements is.bounds) is.shape) rest a.rest;
    }

pub onward_goes : (forms : List StructForm) (part : TypeRef) (count : ℕ) (frames after : List Frame) (slots : List Kind) (run : Option Run) → Onward forms part count frames slots →
    ((own left : List Kind) (found : HasSlots forms part count own) → 1 ≤ leaf_count found.shape → AllLeft forms frames left → GoesOn forms run after (own ++ left)) → GoesOn forms run after slots
onward_goes forms part count frames after slots run on goes =
    subst (GoesOn forms run after) (sym on.is) (goes on.own on.rest on.found on.leaf on.left)

-- the kinds of what is left of a STRUCT
pub left_kinds : (forms : List StructForm) (frame : Frame) (from : ℕ) (slots : List Kind) (answer : Kinds) → frame.left ≡ FieldsFrom from → HasLeft forms frame slots →
    ((fields : Fields) → StandsFor forms (Struct frame.number) (OfFields fields) → answer ≡ kinds_among (field_slots 1 (drop_fields from fields))) → answer ≡ kinds_among slots
left_kinds forms frame from slots answer behind has tells =
    tells has.fields has.stands ∙ same_kinds_in 1 has.many (drop_fields from has.fields) (omega arith) has.some
    ∙ ap kinds_among (sym (has.is ∙ ap (λ l. left_slots l has.many has.fields) behind))

-- the kinds of what is left of some STRUCTs, where those of the outer ones are known
pub record Gathered (forms : List StructForm) (inner : List Frame) (kinds : Kinds) (slots : List Kind) : Type 0 where
  pub rest : List Kind
  pub own : List Kind
  pub left : AllLeft forms inner rest
  pub kinds_are : kinds ≡ kinds_among own
  pub is : slots ≡ rest ++ own

pub gathered_none : (forms : List StructForm) (frames : List Frame) (slots : List Kind) → AllLeft forms frames slots → Gathered forms frames no_kinds slots
gathered_none forms frames slots h = record { rest = slots; own = []; left = h; kinds_are = refl; is = sym (append-nil slots) }

gathered_within : (forms : List StructForm) (frame : Frame) (inner : List Frame) (kinds more : Kinds) (slots : List Kind) → Gathered forms (frame ∷ inner) kinds slots →
    ((own : List Kind) → HasLeft forms frame own → more ≡ kinds_among own) → Gathered forms inner (joined_kinds more kinds) slots
gathered_within forms frame inner kinds more slots so tells = record {
  rest = so.left.0;
  own = so.left.1 ++ so.own;
  left = so.left.2;
  kinds_are = (λ i. joined_kinds (tells so.left.1 so.left.3 i) (so.kinds_are i)) ∙ sym (kinds-append so.left.1 so.own);
  is = so.is ∙ ap (λ l. l ++ so.own) so.left.4 ∙ append_assoc so.left.0 so.left.1 so.own;
}

drop_cons : {X : Type 0} (xs : List X) (i : ℕ) (d : X) → i < length xs → drop i xs ≡ get_or xs i d ∷ drop (i + 1) xs
drop_cons [] i d inside = absurd (omega (arith, inside))
drop_cons (y ∷ xs) zero d inside = refl
drop_cons (y ∷ xs) (suc i) d inside =
    let e : suc i + 1 ≡ suc (i + 1) = omega arith in
    drop_cons xs i d (omega (arith, inside)) ∙ ap (λ n. get_or xs i d ∷ drop n (y ∷ xs)) (sym e)

drop_all : {X : Type 0} (xs : List X) (i : ℕ) → length xs ≤ i → drop i xs ≡ []
drop_all [] zero h = refl
drop_all [] (suc i) h = refl
drop_all (y ∷ xs) zero h = absurd (omega (arith, h))
drop_all (y ∷ xs) (suc i) h = drop_all xs i (omega (arith, h))

pub gathered_more : (forms : List StructForm) (frames : List Frame) (i : ℕ) (d : Frame) (kinds more : Kinds) (slots : List Kind) → i < length frames →
    Gathered forms (drop i frames) kinds slots → ((own : List Kind) → HasLeft forms (get_or frames i d) own → more ≡ kinds_among own) → Gathered forms (drop (i + 1) frames) (joined_kinds more kinds) slots
gathered_more forms frames i d kinds more slots inside so tells =
    gathered_within forms (get_or frames i d) (drop (i + 1) frames) kinds more slots (subst (λ l. Gathered forms l kinds slots) (drop_cons frames i d inside) so) tells

pub gathered_all : (forms : List StructForm) (frames : List Frame) (i : ℕ) (kinds : Kinds) (slots : List Kind) → length frames ≤ i → Gathered forms (drop i frames) kinds slots → kinds ≡ kinds_among slots
gathered_all forms frames i kinds slots past so = by (subst (λ l. Gathered forms l kinds slots) (drop_all frames i past) so)
  where
    by : Gathered forms [] kinds slots → kinds ≡ kinds_among slots
    by none = none.kinds_are ∙ ap kinds_among (sym (none.is ∙ ap (λ l. l ++ none.own) none.left))

-- a type with no leaves
pub begins_none : (forms : List StructForm) (part : TypeRef) (count : ℕ) (frames : List Frame) (slots : List Kind) → HasSlots forms part count slots → AllLeft forms frames [] →
    ((shape : Shape) → StandsFor forms part shape → false ≡ nat_lt 0 (leaf_count shape)) → GoesOn forms None frames slots
begins_none forms part count frames slots has left leafless =
    (has.is ∙ no_slots [] [] has.many has.shape (zero_leaves (leaf_count has.shape) (leafless has.shape has.stands)), left)
  where
    zero_leaves : (n : ℕ) → false ≡ nat_lt 0 n → n ≡ 0
    zero_leaves zero h = refl
    zero_leaves (suc n) h = absurd (true≢false (sym (h ∙ above_zero n)))

-- and one with some
pub begins_some : (forms : List StructForm) (part : TypeRef) (count : ℕ) (frames after : List Frame) (slots : List Kind) (run : Option Run) → HasSlots forms part count slots → AllLeft forms frames [] →
    ((shape : Shape) → StandsFor forms part shape → true ≡ nat_lt 0 (leaf_count shape)) →
    ((own left : List Kind) (found : HasSlots forms part count own) → 1 ≤ leaf_count found.shape → AllLeft forms frames left → GoesOn forms run after (own ++ left)) → GoesOn forms run after slots
begins_some forms part count frames after slots run has left leafy goes =
    subst (GoesOn forms run after) (append-nil slots) (goes slots [] has (some_leaf (leaf_count has.shape) (leafy has.shape has.stands)) left)
  where
    some_leaf : (n : ℕ) → true ≡ nat_lt 0 n → 1 ≤ n
    some_leaf zero h = absurd (true≢false h)
    some_leaf (suc n) h = omega arith

-- runs that were listed, and the next one
pub record Walked (forms : List StructForm) (next : Option Run) (frames : List Frame) (runs : List Run) (slots : List Kind) : Type 0 where
  pub rest : List Kind
  pub goes : GoesOn forms next frames rest
  pub is : slots ≡ flat_map run_slots runs ++ rest
  pub full : All (λ (run : Run). 1 ≤ run.count) runs

pub walked_none : (forms : List StructForm) (next : Option Run) (frames : List Frame) (slots : List Kind) → GoesOn forms next frames slots → Walked forms next frames [] slots
walked_none forms next frames slots goes = record { rest = slots; goes = goes; is = refl; full = All-nil (λ (run : Run). 1 ≤ run.count) }

pub walked_more : (forms : List StructForm) (run : Run) (next : Option Run) (frames after : List Frame) (runs : List Run) (slots : List Kind) → Walked forms (Some run) frames runs slots →
    ((left : List Kind) → AllLeft forms frames left → GoesOn forms next after left) → Walked forms next after (runs ++ run ∷ []) slots
walked_more forms run next frames after runs slots so goes = record {
  rest = so.goes.0;
  goes = goes so.goes.0 so.goes.1;
  is = so.is ∙ ap (λ l. flat_map run_slots runs ++ l) so.goes.3
      ∙ sym (append_assoc (flat_map run_slots runs) (run_slots run) so.goes.0)
      ∙ ap (λ l. (flat_map run_slots runs ++ l) ++ so.goes.0) (sym (append-nil (run_slots run)))
      ∙ ap (λ l. l ++ so.goes.0) (sym (flat_map-append run_slots runs (run ∷ [])));
  full = All-push (λ (r : Run). 1 ≤ r.count) runs run so.full so.goes.2;
}

pub walked_all : (forms : List StructForm) (frames : List Frame) (found : Slots) (slots : List Kind) (most : ℕ) → found.behind ≡ no_kinds → Walked forms None frames found.runs.items slots → Lists found slots most
walked_all forms frames found slots most none so =
    record { rest = []; is = so.is ∙ ap (λ l. flat_map run_slots found.runs.items ++ l) so.goes.0; behind = none; full = so.full; enough = inr refl }

pub walked_enough : (forms : List StructForm) (next : Option Run) (frames : List Frame) (found : Slots) (kinds : Kinds) (slots : List Kind) (most : ℕ) → found.behind ≡ joined_kinds (kinds_of_next next) kinds →
    most ≤ length found.runs.items → ((left : List Kind) → AllLeft forms frames left → kinds ≡ kinds_among left) → Walked forms next frames found.runs.items slots → Lists found slots most
walked_enough forms next frames found kinds slots most behind enough tells so =
    record { rest = so.rest; is = so.is; behind = behind ∙ by next so.goes; full = so.full; enough = inl enough }
  where
    by : (n : Option Run) → GoesOn forms n frames so.rest → joined_kinds (kinds_of_next n) kinds ≡ kinds_among so.rest
    by None goes = tells [] goes.1 ∙ ap kinds_among (sym goes.0)
    by (Some run) goes =
        (λ i. joined_kinds (sym (kinds-run run.count run.kind goes.2) i) (tells goes.0 goes.1 i))
        ∙ sym (kinds-append (run_slots run) goes.0) ∙ ap kinds_among (sym goes.3)

pub leaf_counted : (shape : Shape) → nat_lt 0 (counts_of shape).leaves ≡ nat_lt 0 (leaf_count shape)
unfolding counts
leaf_counted shape = grind (arith, nat_tests)

-- the kinds among the fields from one on
drop_past : (i : ℕ) (fields : Fields) → drop_fields i fields ≡ NoField → drop_fields (suc i) fields ≡ NoField
drop_past zero fields h = ap (drop_fields 1) h
drop_past (suc i) NoField h = refl
drop_past (suc i) (MoreField name bounds shape rest) h = drop_past i rest h

pub kinds_there : (forms : List StructForm) (entries : List (ArrayVec ℕ × FieldForm)) (fields : Fields) (i : ℕ) (entry : ArrayVec ℕ × FieldForm) (own behind : Kinds) →
    FieldsStand forms 0 0 entries fields → slice_get entries i ≡ Some entry → ((shape : Shape) → StandsFor forms entry.1.part shape → own ≡ kinds_among (shape_slots 1 shape)) →
    behind ≡ kinds_among (field_slots 1 (drop_fields (i + 1) fields)) → joined_kinds own behind ≡ kinds_among (field_slots 1 (drop_fields i fields))
kinds_there forms entries fields i entry own behind h e tells rest =
    let at = field_there forms 0 0 entries fields i entry h e in
    let next : i + 1 ≡ suc i = omega arith in
    (λ k. joined_kinds (tells at.shape at.stands k) (rest k))
    ∙ (λ k. joined_kinds (same_kinds 1 (1 * elements at.bounds) at.shape (omega arith) (some_within 1 at.bounds (omega arith)) k) (kinds_among (field_slots 1 (drop_fields (next k) fields))))
    ∙ sym (kinds-append (shape_slots (1 * elements at.bounds) at.shape) (field_slots 1 (drop_fields (suc i) fields)))
    ∙ ap (λ f. kinds_among (field_slots 1 f)) (sym at.is)

pub kinds_past : (forms : List StructForm) (entries : List (ArrayVec ℕ × FieldForm)) (fields : Fields) (i : ℕ) →
    FieldsStand forms 0 0 entries fields → slice_get entries i ≡ None → no_kinds ≡ kinds_among (field_slots 1 (drop_fields i fields))
kinds_past forms entries fields i h e = ap (λ f. kinds_among (field_slots 1 f)) (sym (no_field forms 0 0 entries fields i h e))

-- the tails of the fields from one on, and the last of them
pub record Tailed (tails : List Kinds) (kinds : Kinds) (fields : Fields) : Type 0 where
  pub all : tails ≡ tails_of fields
  pub last : kinds ≡ kinds_among (field_slots 1 fields)

drop_counted : (fields : Fields) → drop_fields (field_count fields) fields ≡ NoField
drop_counted NoField = refl
drop_counted (MoreField name bounds shape rest) = drop_counted rest

pub tailed_none : (forms : List StructForm) (entries : List (ArrayVec ℕ × FieldForm)) (fields : Fields) → FieldsStand forms 0 0 entries fields →
    Tailed (no_kinds ∷ []) no_kinds (drop_fields (length entries) fields)
tailed_none forms entries fields h =
    subst (Tailed (no_kinds ∷ []) no_kinds) (sym (ap (λ n. drop_fields n fields) (fields_counted forms 0 0 entries fields h) ∙ drop_counted fields))
    (record { all = refl; last = refl })

record CutAt (fields : Fields) (i : ℕ) : Type 0 where
  pub name : List ℕ
  pub bounds : List (ℤ × ℤ)
  pub shape : Shape
  pub is : drop_fields i fields ≡ MoreField name bounds shape (drop_fields (suc i) fields)

field_within : (forms : List StructForm) (leaves slots : ℕ) (entries : List (ArrayVec ℕ × FieldForm)) (fields : Fields) (i : ℕ) →
    FieldsStand forms leaves slots entries fields → i < length entries → CutAt fields i
unfolding StandsFor
field_within forms leaves slots [] NoField i h inside = absurd (omega (arith, inside))
field_within forms leaves slots (x ∷ entries) (MoreField name bounds shape rest) zero h inside = record { name = name; bounds = bounds; shape = shape; is = refl }
field_within forms leaves slots (x ∷ entries) (MoreField name bounds shape rest) (suc i) h inside =
    let r = field_within forms (leaves + leaf_count shape) (slots + slot_count bounds shape) entries rest i h.2 (omega (arith, inside)) in
    record { name = r.name; bounds = r.bounds; shape = r.shape; is = r.is }
field_within forms leaves slots [] (MoreField name bounds shape rest) i h inside = absurd h
field_within forms leaves slots (x ∷ entries) NoField i h inside = absurd h

pub tailed_more : (forms : List StructForm) (entries : List (ArrayVec ℕ × FieldForm)) (fields : Fields) (left i : ℕ) (tails : List Kinds) (kinds own : Kinds) → FieldsStand forms 0 0 entries fields →
    left ≡ i + 1 → left ≤ length entries → Tailed tails kinds (drop_fields left fields) → own ≡ kinds_among (field_slots 1 (drop_fields i fields)) → Tailed (tails ++ own ∷ []) own (drop_fields i fields)
tailed_more forms entries fields left i tails kinds own h next inside so is =
    let e : left ≡ suc i = omega (arith, next) in
    let at = field_within forms 0 0 entries fields i h (omega (arith, next, inside)) in
    record {
      all = (λ k. so.all k ++ is k ∷ []) ∙ (λ k. tails_of (drop_fields (e k) fields) ++ kinds_among (field_slots 1 (at.is k)) ∷ []) ∙ ap tails_of (sym at.is);
      last = is;
    }
