-- What forms stand for: it stays where more forms come, and fields are found by their names.
use Rattle.std.proofs.Common.{◌≡◌, ℕ, zero, suc, ◌+◌, ◌-◌, ◌<◌, ℤ, Bool, true, false, cond, List, [], ◌∷◌, ◌++◌, map, option_map, length, take, drop, slice_get, Option, Some, None, bytes_eq, refl, sym, ap, subst, ◌∙◌, true≢false, is_some, arith}
use Rattle.std.proofs.lemmas.List.{take-append-drop, take-append-le}
use Rattle.std.proofs.lemmas.Option.{same_Some, none-some, slice_get_within}
use Rattle.std.specs.Map.{lookup}
use Rattle.arrayvec.specs.ArrayVec.{ArrayVec}
use Rattle.pearl_value.specs.declared.kind.Kind.{Kind}
use Rattle.pearl_names.specs.Shapes.{Shape, OfKind, OfFields, Fields, NoField, MoreField}
use Rattle.pearl_names.specs.declared.sense.Bounds.{Bounds}
use Rattle.pearl_names.specs.declared.types.Counts.{Counts}
use Rattle.pearl_names.specs.declared.types.TypeRef.{TypeRef}
use Rattle.pearl_names.specs.declared.types.TypeRef.TheVariants.{Basic, Struct}
use Rattle.pearl_names.specs.declared.types.FieldForm.{FieldForm}
use Rattle.pearl_names.specs.declared.types.StructForm.{StructForm}
use Rattle.pearl_names.specs.Chains.{only_end}
use Rattle.pearl_names.specs.Counts.{counts, counts_of}
use Rattle.pearl_names.specs.Leaps.{LeapStands}
use Rattle.pearl_names.specs.declared.kinds.Kinds.{Kinds}
use Rattle.pearl_names.specs.Kinds.{one_kind, kinds_among}
use Rattle.pearl_names.specs.Runs.{shape_slots, field_slots, drop_fields, tails_of}
use Rattle.pearl_names.proofs.KindSets.{kinds-run}
use Rattle.pearl_names.proofs.ShapeSlots.{field_count, tail_at}
use Rattle.pearl_names.specs.Forms.{leaf_count, slot_count, pair_of, StandsFor, FieldsStand, AllBounded, FindsBounds, Component, component, MatchesComponent}

pub slice_get_more : {X : Type 0} (xs ys : List X) (i : ℕ) (x : X) → slice_get xs i ≡ Some x → slice_get (xs ++ ys) i ≡ Some x
slice_get_more [] ys i x h = absurd (true≢false (sym (ap is_some h)))
slice_get_more (y ∷ xs) ys zero x h = h
slice_get_more (y ∷ xs) ys (suc i) x h = slice_get_more xs ys i x h

mutual
  unfolding StandsFor

  pub stands_more : (forms more : List StructForm) (part : TypeRef) (shape : Shape) → StandsFor forms part shape → StandsFor (forms ++ more) part shape
  stands_more forms more (Basic kind) (OfKind to) h = h
  stands_more forms more (Struct number) (OfFields fields) h =
      let inside : number < length forms = slice_get_within forms number h.0 h.1 in
      let same = take-append-le number forms more (omega (arith, inside)) in
      (h.0, slice_get_more forms more number h.0 h.1, subst (λ l. FieldsStand l 0 0 h.0.fields.entries fields) (sym same) h.2, h.3, h.4, h.5, h.6 ∙ ap (λ l. only_end l h.0.fields.entries) (sym same), subst (λ l. LeapStands l h.0.leap h.0.fields.entries fields) (sym same) h.7)
  stands_more forms more (Basic kind) (OfFields fields) h = absurd h
  stands_more forms more (Struct number) (OfKind kind) h = absurd h

  pub fields_more : (forms more : List StructForm) (leaves slots : ℕ) (entries : List (ArrayVec ℕ × FieldForm)) (fields : Fields) →
      FieldsStand forms leaves slots entries fields → FieldsStand (forms ++ more) leaves slots entries fields
  fields_more forms more leaves slots [] NoField h = h
  fields_more forms more leaves slots (entry ∷ entries) (MoreField name bounds shape rest) h =
      (h.0, stands_more forms more entry.1.part shape h.1, fields_more forms more _ _ entries rest h.2)
  fields_more forms more leaves slots [] (MoreField name bounds shape rest) h = absurd h
  fields_more forms more leaves slots (entry ∷ entries) NoField h = absurd h

-- what stands among the first forms stands among all
pub fields_all : (forms : List StructForm) (n leaves slots : ℕ) (entries : List (ArrayVec ℕ × FieldForm)) (fields : Fields) →
    FieldsStand (take n forms) leaves slots entries fields → FieldsStand forms leaves slots entries fields
fields_all forms n leaves slots entries fields h =
    subst (λ l. FieldsStand l leaves slots entries fields) (take-append-drop n forms) (fields_more (take n forms) (drop n forms) leaves slots entries fields h)

-- a field is found by its name
pub found_field : (forms : List StructForm) (leaves slots : ℕ) (entries : List (ArrayVec ℕ × FieldForm)) (fields : Fields) (text : List ℕ) →
    FieldsStand forms leaves slots entries fields → MatchesComponent forms (lookup (λ key. bytes_eq text key.items) entries) (component leaves slots fields text)
unfolding StandsFor
found_field forms leaves slots [] NoField text h = h
found_field forms leaves slots (entry ∷ entries) (MoreField name bounds shape rest) text h =
    rw h.0.named (by (bytes_eq text name) (found_field forms (leaves + leaf_count shape) (slots + slot_count bounds shape) entries rest text h.2))
  where
    by : (b : Bool) → MatchesComponent forms (lookup (λ key. bytes_eq text key.items) entries) (component (leaves + leaf_count shape) (slots + slot_count bounds shape) rest text) →
        MatchesComponent forms (cond b (Some entry.1) (lookup (λ key. bytes_eq text key.items) entries))
        (cond b (Some (record { bounds = bounds; shape = shape; leaf = leaves; slot = slots })) (component (leaves + leaf_count shape) (slots + slot_count bounds shape) rest text))
    by true inner = record { leaf = h.0.leaf; slot = h.0.slot; dimensions = h.0.dimensions; count = h.0.count; part = h.1 }
    by false inner = inner
found_field forms leaves slots [] (MoreField name bounds shape rest) text h = absurd h
found_field forms leaves slots (entry ∷ entries) NoField text h = absurd h

pub field_answer : (forms : List StructForm) (number : ℕ) (fields : Fields) (text : List ℕ) (form : StructForm) (answer : Option FieldForm) →
    slice_get forms number ≡ Some form → answer ≡ lookup (λ key. bytes_eq text key.items) form.fields.entries →
    StandsFor forms (Struct number) (OfFields fields) → MatchesComponent forms answer (component 0 0 fields text)
unfolding StandsFor
field_answer forms number fields text form answer at is h =
    let same : form ≡ h.0 = same_Some form h.0 (sym at ∙ h.1) in
    rw (is, same) (found_field forms 0 0 h.0.fields.entries fields text (fields_all forms number 0 0 h.0.fields.entries fields h.2))

-- and so are its bounds
pub found_bounds : (all : List Bounds) (forms : List StructForm) (leaves slots : ℕ) (entries : List (ArrayVec ℕ × FieldForm)) (fields : Fields) (text : List ℕ) →
    FieldsStand forms leaves slots entries fields → AllBounded all entries fields →
    FindsBounds all (lookup (λ key. bytes_eq text key.items) entries) (component leaves slots fields text)
unfolding StandsFor
found_bounds all forms leaves slots [] NoField text h b = tt
found_bounds all forms leaves slots (entry ∷ entries) (MoreField name bounds shape rest) text h b =
    rw h.0.named (by (bytes_eq text name) (found_bounds all forms (leaves + leaf_count shape) (slots + slot_count bounds shape) entries rest text h.2 b.1))
  where
    by : (c : Bool) → FindsBounds all (lookup (λ key. bytes_eq text key.items) entries) (component (leaves + leaf_count shape) (slots + slot_count bounds shape) rest text) →
        FindsBounds all (cond c (Some entry.1) (lookup (λ key. bytes_eq text key.items) entries))
        (cond c (Some (record { bounds = bounds; shape = shape; leaf = leaves; slot = slots })) (component (leaves + leaf_count shape) (slots + slot_count bounds shape) rest text))
    by true inner = b.0
    by false inner = inner
found_bounds all forms leaves slots [] (MoreField name bounds shape rest) text h b = absurd h
found_bounds all forms leaves slots (entry ∷ entries) NoField text h b = absurd h

pub some_bounds : (all own : List Bounds) (answer : Option FieldForm) (field : FieldForm) (of : Option Component) → answer ≡ Some field → FindsBounds all answer of →
    ((before mine behind : List Bounds) → all ≡ before ++ (mine ++ behind) → field.first ≡ length before → field.past ≡ length before + length mine → own ≡ mine) →
    Some (map pair_of own) ≡ option_map (λ of. of.bounds) of
some_bounds all own (Some found) field (Some of) is h reads =
    let same : found ≡ field = same_Some found field is in
    ap Some (ap (map pair_of) (reads h.before h.own h.behind h.is (ap (λ f. f.first) (sym same) ∙ h.first) (ap (λ f. f.past) (sym same) ∙ h.past)) ∙ h.pairs)
some_bounds all own (Some found) field None is h reads = absurd h
some_bounds all own None field of is h reads = absurd (none-some field is)

pub no_bounds : (all : List Bounds) (answer : Option FieldForm) (of : Option Component) → answer ≡ None → FindsBounds all answer of →
    None ≡ option_map (λ of. of.bounds) of
no_bounds all None None is h = refl
no_bounds all None (Some of) is h = absurd h
no_bounds all (Some found) of is h = absurd (none-some found (sym is))

pub bounds_answer : (forms : List StructForm) (number : ℕ) (fields : Fields) (text : List ℕ) (form : StructForm) (answer : Option (List (ℤ × ℤ))) →
    slice_get forms number ≡ Some form →
    ((early : List StructForm) (own : Fields) → FieldsStand early 0 0 form.fields.entries own → AllBounded form.bounds.items form.fields.entries own →
    answer ≡ option_map (λ of. of.bounds) (component 0 0 own text)) →
    StandsFor forms (Struct number) (OfFields fields) → answer ≡ option_map (λ of. of.bounds) (component 0 0 fields text)
unfolding StandsFor
bounds_answer forms number fields text form answer at tells h =
    let same : form ≡ h.0 = same_Some form h.0 (sym at ∙ h.1) in
    tells (take number forms) fields (subst (λ f. FieldsStand (take number forms) 0 0 f.fields.entries fields) (sym same) h.2)
    (subst (λ f. AllBounded f.bounds.items f.fields.entries fields) (sym same) h.5)

pub no_form : (forms : List StructForm) (number : ℕ) (fields : Fields) → slice_get forms number ≡ None → StandsFor forms (Struct number) (OfFields fields) → ⊥
unfolding StandsFor
no_form forms number fields at h = none-some h.0 (sym at ∙ h.1)

pub counts_answer : (forms : List StructForm) (number : ℕ) (fields : Fields) (form : StructForm) → slice_get forms number ≡ Some form →
    StandsFor forms (Struct number) (OfFields fields) → form.counts ≡ counts_of (OfFields fields)
unfolding StandsFor
counts_answer forms number fields form at h = ap (λ f. f.counts) (same_Some form h.0 (sym at ∙ h.1)) ∙ h.3

-- the counts of a basic type, and of a STRUCT
pub basic_counts : (forms : List StructForm) (kind : Kind) (shape : Shape) → StandsFor forms (Basic kind) shape →
    record { leaves = 1; slots = 1; dimensions = 0; greatest = 1; longest = 0 } ≡ counts_of shape
unfolding StandsFor counts
basic_counts forms kind (OfKind to) h = refl
basic_counts forms kind (OfFields fields) h = absurd h

pub struct_counts : (forms : List StructForm) (number : ℕ) (shape : Shape) (answer : Counts) →
    ((fields : Fields) → StandsFor forms (Struct number) (OfFields fields) → answer ≡ counts_of (OfFields fields)) →
    StandsFor forms (Struct number) shape → answer ≡ counts_of shape
unfolding StandsFor
struct_counts forms number (OfKind kind) answer tells h = absurd h
struct_counts forms number (OfFields fields) answer tells h = tells fields h

-- the kinds among the fields from one on
pub fields_counted : (forms : List StructForm) (leaves slots : ℕ) (entries : List (ArrayVec ℕ × FieldForm)) (fields : Fields) →
    FieldsStand forms leaves slots entries fields → length entries ≡ field_count fields
unfolding StandsFor
fields_counted forms leaves slots [] NoField h = refl
fields_counted forms leaves slots (entry ∷ entries) (MoreField name bounds shape rest) h =
    ap suc (fields_counted forms (leaves + leaf_count shape) (slots + slot_count bounds shape) entries rest h.2)
fields_counted forms leaves slots [] (MoreField name bounds shape rest) h = absurd h
fields_counted forms leaves slots (entry ∷ entries) NoField h = absurd h

pub tail_found : (forms : List StructForm) (form : StructForm) (fields : Fields) (next : ℕ) → FieldsStand forms 0 0 form.fields.entries fields → form.tails.items ≡ tails_of fields →
    slice_get form.tails.items (length form.fields.entries - next) ≡ Some (kinds_among (field_slots 1 (drop_fields next fields)))
tail_found forms form fields next h tails = rw (tails, fields_counted forms 0 0 form.fields.entries fields h) (tail_at fields next)

pub kinds_answer : (forms : List StructForm) (number : ℕ) (fields : Fields) (next : ℕ) (form : StructForm) (answer : Kinds) → slice_get forms number ≡ Some form →
    ((early : List StructForm) (own : Fields) → FieldsStand early 0 0 form.fields.entries own → form.tails.items ≡ tails_of own → answer ≡ kinds_among (field_slots 1 (drop_fields next own))) →
    StandsFor forms (Struct number) (OfFields fields) → answer ≡ kinds_among (field_slots 1 (drop_fields next fields))
unfolding StandsFor
kinds_answer forms number fields next form answer at tells h =
    let same : form ≡ h.0 = same_Some form h.0 (sym at ∙ h.1) in
    tells (take number forms) fields (subst (λ f. FieldsStand (take number forms) 0 0 f.fields.entries fields) (sym same) h.2) (ap (λ f. f.tails.items) same ∙ h.4)

-- the kinds of a basic type, and of a STRUCT
pub basic_kinds : (forms : List StructForm) (kind : Kind) (shape : Shape) → StandsFor forms (Basic kind) shape → one_kind kind ≡ kinds_among (shape_slots 1 shape)
unfolding StandsFor
basic_kinds forms kind (OfKind to) h = ap one_kind h ∙ sym (kinds-run 1 to (omega arith))
basic_kinds forms kind (OfFields fields) h = absurd h

pub struct_kinds : (forms : List StructForm) (number : ℕ) (shape : Shape) (answer : Kinds) →
    ((fields : Fields) → StandsFor forms (Struct number) (OfFields fields) → answer ≡ kinds_among (field_slots 1 fields)) →
    StandsFor forms (Struct number) shape → answer ≡ kinds_among (shape_slots 1 shape)
unfolding StandsFor
struct_kinds forms number (OfKind kind) answer tells h = absurd h
struct_kinds forms number (OfFields fields) answer tells h = tells fields h
