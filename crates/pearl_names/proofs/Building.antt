-- How a form is built field by field.
use Rattle.std.proofs.Common.{◌≡◌, ℕ, ◌+◌, ℤ, Bool, true, false, cond, not, ◌||◌, List, [], ◌∷◌, ◌++◌, map, length, Some, is_none, bytes_eq, refl, sym, ap, subst, ◌∙◌, true≢false, append_assoc, append-nil, length-append, arith}
use Rattle.std.proofs.lemmas.List.{map-append}
use Rattle.std.proofs.lemmas.Grind.{flat_map-append}
use Rattle.std.specs.Map.{lookup}
use Rattle.arrayvec.specs.ArrayVec.{ArrayVec}
use Rattle.pearl_tree.specs.declared.name.Name.{Name}
use Rattle.pearl_tree.specs.Names.{name_text, is_among, has_repeats}
use Rattle.pearl_names.specs.Shapes.{Shape, Fields, NoField, MoreField, with_fields}
use Rattle.pearl_names.specs.Layout.{leaves_of, leaves_of_fields, leaf_slots, slots_of}
use Rattle.pearl_names.specs.declared.sense.Bounds.{Bounds}
use Rattle.pearl_names.specs.declared.types.Counts.{Counts}
use Rattle.pearl_names.specs.declared.types.FieldForm.{FieldForm}
use Rattle.pearl_names.specs.declared.types.StructForm.{StructForm}
use Rattle.pearl_names.specs.Counts.{cut, counts, counts_of, joined, within, behind_name}
use Rattle.pearl_names.specs.Forms.{leaf_count, slot_count, StandsFor, FieldsStand, HasBounds, AllBounded, IsForm, IsPart, AreNamed, Adds, append_fields, pair_of}
use Rattle.pearl_names.proofs.FirstNames.{bytes_symm}
use Rattle.pearl_names.proofs.Counting.{counts-append, counts_of_field, leaves_behind, slots-behind, behind}
use Rattle.std.proofs.lemmas.List.{length-map}

leaves_append : (path : List (List ℕ)) (bounds : List (ℤ × ℤ)) (a b : Fields) →
    leaves_of_fields path bounds (append_fields a b) ≡ leaves_of_fields path bounds a ++ leaves_of_fields path bounds b
leaves_append path bounds NoField b = refl
leaves_append path bounds (MoreField name own shape rest) b =
    ap (λ t. leaves_of (path ++ name ∷ []) (bounds ++ own) shape ++ t) (leaves_append path bounds rest b)
    ∙ sym (append_assoc (leaves_of (path ++ name ∷ []) (bounds ++ own) shape) _ _)

abbrev leaves_in : Fields → ℕ
leaves_in fields = length (leaves_of_fields [] [] fields)

abbrev slots_in : Fields → ℕ
slots_in fields = length (slots_of (leaves_of_fields [] [] fields))

pub leaves_more : (name : List ℕ) (bounds : List (ℤ × ℤ)) (shape : Shape) (rest : Fields) → leaves_in (MoreField name bounds shape rest) ≡ leaf_count shape + leaves_in rest
leaves_more name bounds shape rest =
    length-append (leaves_of (name ∷ []) bounds shape) (leaves_of_fields [] [] rest)
    ∙ ap (λ n. n + leaves_in rest) (ap length (leaves_behind (name ∷ []) bounds shape) ∙ length-map (leaves_of [] [] shape) (behind (name ∷ []) bounds))

slots_more : (name : List ℕ) (bounds : List (ℤ × ℤ)) (shape : Shape) (rest : Fields) → slots_in (MoreField name bounds shape rest) ≡ slot_count bounds shape + slots_in rest
slots_more name bounds shape rest =
    ap length (flat_map-append leaf_slots (leaves_of (name ∷ []) bounds shape) (leaves_of_fields [] [] rest))
    ∙ length-append (slots_of (leaves_of (name ∷ []) bounds shape)) (slots_of (leaves_of_fields [] [] rest))
    ∙ ap (λ n. n + slots_in rest) (ap (λ l. length (slots_of l)) (leaves_behind (name ∷ []) bounds shape) ∙ slots-behind (name ∷ []) bounds (leaves_of [] [] shape))

-- the fields of one list, and then those of another
fields_append : (forms : List StructForm) (leaves slots : ℕ) (es bs : List (ArrayVec ℕ × FieldForm)) (a b : Fields) →
    FieldsStand forms leaves slots es a → FieldsStand forms (leaves + leaves_in a) (slots + slots_in a) bs b → FieldsStand forms leaves slots (es ++ bs) (append_fields a b)
unfolding StandsFor
fields_append forms leaves slots [] bs NoField b one two =
    let l : leaves + 0 ≡ leaves = omega arith in
    let s : slots + 0 ≡ slots = omega arith in
    subst (λ n. FieldsStand forms leaves n bs b) s (subst (λ n. FieldsStand forms n (slots + 0) bs b) l two)
fields_append forms leaves slots (e ∷ es) bs (MoreField name bounds shape rest) b one two =
    let l : leaves + leaves_in (MoreField name bounds shape rest) ≡ leaves + leaf_count shape + leaves_in rest =
    let h : _ = leaves_more name bounds shape rest in omega (arith, h) in
    let s : slots + slots_in (MoreField name bounds shape rest) ≡ slots + slot_count bounds shape + slots_in rest =
    let h : _ = slots_more name bounds shape rest in omega (arith, h) in (
      one.0,
      one.1,
      fields_append forms (leaves + leaf_count shape) (slots + slot_count bounds shape) es bs rest b one.2
          (subst (λ n. FieldsStand forms (leaves + leaf_count shape + leaves_in rest) n bs b) s
          (subst (λ n. FieldsStand forms n (slots + slots_in (MoreField name bounds shape rest)) bs b) l two)),
    )
fields_append forms leaves slots [] bs (MoreField name bounds shape rest) b one two = absurd one
fields_append forms leaves slots (e ∷ es) bs NoField b one two = absurd one

bounded_append : (all : List Bounds) (es bs : List (ArrayVec ℕ × FieldForm)) (a b : Fields) → AllBounded all es a → AllBounded all bs b →
    AllBounded all (es ++ bs) (append_fields a b)
bounded_append all [] bs NoField b one two = two
bounded_append all (e ∷ es) bs (MoreField name bounds shape rest) b one two = (one.0, bounded_append all es bs rest b one.1 two)
bounded_append all [] bs (MoreField name bounds shape rest) b one two = absurd one
bounded_append all (e ∷ es) bs NoField b one two = absurd one

-- where more bounds come
bounded_more : (all more : List Bounds) (es : List (ArrayVec ℕ × FieldForm)) (a : Fields) → AllBounded all es a → AllBounded (all ++ more) es a
bounded_more all more [] NoField h = tt
bounded_more all more (e ∷ es) (MoreField name bounds shape rest) h = (
  record {
    before = h.0.before;
    own = h.0.own;
    behind = h.0.behind ++ more;
    is = ap (λ l. l ++ more) h.0.is ∙ append_assoc h.0.before (h.0.own ++ h.0.behind) more ∙ ap (λ l. h.0.before ++ l) (append_assoc h.0.own h.0.behind more);
    first = h.0.first;
    past = h.0.past;
    pairs = h.0.pairs;
  },
  bounded_more all more es rest h.1,
)
bounded_more all more [] (MoreField name bounds shape rest) h = absurd h
bounded_more all more (e ∷ es) NoField h = absurd h

pub form_wider : (forms : List StructForm) (form now : StructForm) (own : List Bounds) (fields : Fields) → now.fields.entries ≡ form.fields.entries → now.counts ≡ form.counts →
    now.bounds.items ≡ form.bounds.items ++ own → IsForm forms form fields → IsForm forms now fields
form_wider forms form now own fields entries counted wider is = record {
  stand = subst (λ es. FieldsStand forms 0 0 es fields) (sym entries) is.stand;
  counted = counted ∙ is.counted;
  bounded = subst (λ l. AllBounded l now.fields.entries fields) (sym wider)
      (subst (λ es. AllBounded (form.bounds.items ++ own) es fields) (sym entries) (bounded_more form.bounds.items own form.fields.entries fields is.bounded));
}

-- bounds that were put behind the others
pub bounds_behind : (old new own : List Bounds) (field : FieldForm) (bounds : List (ℤ × ℤ)) → new ≡ old ++ own → field.first ≡ length old → field.past ≡ length old + length own →
    map pair_of own ≡ bounds → HasBounds new field bounds
bounds_behind old new own field bounds is first past pairs = record {
  before = old;
  own = own;
  behind = [];
  is = is ∙ ap (λ l. old ++ l) (sym (append-nil own));
  first = first;
  past = past;
  pairs = pairs;
}

-- one field more
pub form_more : (forms : List StructForm) (old new : StructForm) (key : ArrayVec ℕ) (field : FieldForm) (each : Counts) (fields : Fields) (bounds : List (ℤ × ℤ)) (shape : Shape) →
    Adds old key field each new → IsForm forms old fields → IsPart forms old.bounds.items field each bounds shape →
    IsForm forms new (append_fields fields (MoreField key.items bounds shape NoField))
unfolding StandsFor counts
form_more forms old new key field each fields bounds shape adds is part = record {
  stand = subst (λ es. FieldsStand forms 0 0 es (append_fields fields (MoreField key.items bounds shape NoField))) (sym adds.0)
      (fields_append forms 0 0 old.fields.entries _ fields (MoreField key.items bounds shape NoField) is.stand (
        record {
          named = refl;
          leaf = ap (λ c. c.leaves) is.counted ∙ ap cut (let e : leaves_in fields ≡ 0 + leaves_in fields = omega arith in e);
          slot = ap (λ c. c.slots) is.counted ∙ ap cut (let e : slots_in fields ≡ 0 + slots_in fields = omega arith in e);
          dimensions = part.dimensions;
          count = part.count;
        },
        part.part,
        tt,
      ));
  counted = adds.1
      ∙ (λ i. joined (is.counted i) (counted_each i))
      ∙ sym (counts-append (leaves_of_fields [] [] fields) (leaves_of (key.items ∷ []) bounds shape))
      ∙ ap counts (ap (λ t. leaves_of_fields [] [] fields ++ t) (sym (append-nil (leaves_of (key.items ∷ []) bounds shape))) ∙ sym (leaves_append [] [] fields (MoreField key.items bounds shape NoField)));
  bounded = subst (λ b. AllBounded b.items new.fields.entries (append_fields fields (MoreField key.items bounds shape NoField))) (sym adds.2)
      (subst (λ es. AllBounded old.bounds.items es (append_fields fields (MoreField key.items bounds shape NoField))) (sym adds.0)
      (bounded_append old.bounds.items old.fields.entries _ fields (MoreField key.items bounds shape NoField) is.bounded (placed, tt)));
}
  where
    placed : HasBounds old.bounds.items (record field { leaf = old.counts.leaves; slot = old.counts.slots }) bounds
    placed = record {
      before = part.bounded.before;
      own = part.bounded.own;
      behind = part.bounded.behind;
      is = part.bounded.is;
      first = part.bounded.first;
      past = part.bounded.past;
      pairs = part.bounded.pairs;
    }

    counted_each : behind_name (1 + length key.items) each ≡ counts (leaves_of (key.items ∷ []) bounds shape)
    counted_each =
        ap (behind_name (1 + length key.items)) (part.each ∙ (λ i. within (part.dimensions i) (part.count i) (counts_of shape)))
        ∙ sym (counts_of_field key.items bounds shape)

repeats-more : (before names : List Name) (name : Name) →
    has_repeats before (names ++ name ∷ []) ≡ (has_repeats before names || is_among (before ++ names) (name_text name))
repeats-more before [] name = or_false (is_among before (name_text name)) ∙ ap (λ l. is_among l (name_text name)) (sym (append-nil before))
  where
    or_false : (b : Bool) → (b || false) ≡ b
    or_false true = refl
    or_false false = refl
repeats-more before (first ∷ names) name =
    ap (λ b. is_among before (name_text first) || b) (repeats-more (before ++ first ∷ []) names name
    ∙ ap (λ l. has_repeats (before ++ first ∷ []) names || is_among l (name_text name)) (append_assoc before (first ∷ []) names))
    ∙ sym (or_assoc (is_among before (name_text first)) (has_repeats (before ++ first ∷ []) names) (is_among (before ++ first ∷ names) (name_text name)))
  where
    or_assoc : (a b c : Bool) → ((a || b) || c) ≡ (a || (b || c))
    or_assoc true b c = refl
    or_assoc false b c = refl

repeats_stay : (before names rest : List Name) → has_repeats before names ≡ true → has_repeats before (names ++ rest) ≡ true
repeats_stay before [] rest h = absurd (true≢false (sym h))
repeats_stay before (name ∷ names) rest h = by (is_among before (name_text name)) h (λ k. repeats_stay (before ++ name ∷ []) names rest k)
  where
    by : (b : Bool) → (b || has_repeats (before ++ name ∷ []) names) ≡ true →
        (has_repeats (before ++ name ∷ []) names ≡ true → has_repeats (before ++ name ∷ []) (names ++ rest) ≡ true) →
        (b || has_repeats (before ++ name ∷ []) (names ++ rest)) ≡ true
    by true h stays = refl
    by false h stays = stays h

-- whether a field has a name
among_keys : (entries : List (ArrayVec ℕ × FieldForm)) (names : List Name) (text : List ℕ) → AreNamed entries names →
    is_none (lookup (λ key. bytes_eq text key.items) entries) ≡ not (is_among names text)
among_keys [] [] text h = refl
among_keys (entry ∷ entries) (name ∷ names) text h =
    by (bytes_eq text entry.0.items) refl (among_keys entries names text (ap tail h))
  where
    tail : List (List ℕ) → List (List ℕ)
    tail [] = []
    tail (x ∷ xs) = xs

    head : List (List ℕ) → List ℕ
    head [] = []
    head (x ∷ xs) = x

    by : (b : Bool) → bytes_eq text entry.0.items ≡ b → is_none (lookup (λ key. bytes_eq text key.items) entries) ≡ not (is_among names text) →
        is_none (cond b (Some entry.1) (lookup (λ key. bytes_eq text key.items) entries)) ≡ not (bytes_eq (name_text name) text || is_among names text)
    by true e rest = ap (λ b. not (b || is_among names text)) (sym (ap (λ n. bytes_eq n text) (sym (ap head h)) ∙ bytes_symm text entry.0.items true e))
    by false e rest = rest ∙ ap (λ b. not (b || is_among names text)) (sym (ap (λ n. bytes_eq n text) (sym (ap head h)) ∙ bytes_symm text entry.0.items false e))
among_keys [] (name ∷ names) text h = absurd (nil-cons h)
  where
    nil-cons : {X : Type 0} {x : X} {xs : List X} → [] ≡ x ∷ xs → ⊥
    nil-cons {X} {x} {xs} e = true≢false (ap (λ l. empty l) e)
      where
        empty : List X → Bool
        empty [] = true
        empty (y ∷ ys) = false
among_keys (entry ∷ entries) [] text h = absurd (true≢false (ap full h))
  where
    full : List (List ℕ) → Bool
    full [] = false
    full (y ∷ ys) = true

-- the fields of some names, and of one more
with_more : (names : List Name) (name : Name) (bounds : List (ℤ × ℤ)) (shape : Shape) →
    with_fields (names ++ name ∷ []) bounds shape NoField ≡ append_fields (with_fields names bounds shape NoField) (MoreField (name_text name) bounds shape NoField)
with_more [] name bounds shape = refl
with_more (first ∷ names) name bounds shape = ap (λ t. MoreField (name_text first) bounds shape t) (with_more names name bounds shape)

append_twice : (a b c : Fields) → append_fields (append_fields a b) c ≡ append_fields a (append_fields b c)
append_twice NoField b c = refl
append_twice (MoreField name bounds shape rest) b c = ap (λ t. MoreField name bounds shape t) (append_twice rest b c)

pub append_none : (a : Fields) → append_fields a NoField ≡ a
append_none NoField = refl
append_none (MoreField name bounds shape rest) = ap (λ t. MoreField name bounds shape t) (append_none rest)

-- what a loop over names has added so far
pub record Added (old now : StructForm) (field : FieldForm) (each : Counts) (names : List Name) : Type 0 where
  pub named : (before : List Name) → AreNamed old.fields.entries before → AreNamed now.fields.entries (before ++ names) × (has_repeats before names ≡ false)
  pub built : (forms : List StructForm) (fields : Fields) (bounds : List (ℤ × ℤ)) (shape : Shape) → IsForm forms old fields → IsPart forms old.bounds.items field each bounds shape →
      IsForm forms now (append_fields fields (with_fields names bounds shape NoField))
  pub bounded : now.bounds ≡ old.bounds

pub added_none : (form : StructForm) (field : FieldForm) (each : Counts) → Added form form field each []
added_none form field each = record {
  named = λ before h. (h ∙ ap (map name_text) (sym (append-nil before)), refl);
  built = λ forms fields bounds shape is part. subst (IsForm forms form) (sym (append_none fields)) is;
  bounded = refl;
}

pub added_more : (old now new : StructForm) (field : FieldForm) (each : Counts) (names : List Name) (name : Name) → Added old now field each names →
    is_none (lookup (λ key. bytes_eq (name_text name) key.items) now.fields.entries) ≡ true → Adds now name.text field each new →
    Added old new field each (names ++ name ∷ [])
added_more old now new field each names name added fresh adds = record {
  named = λ before h.
      let so = added.named before h in
      let absent : is_among (before ++ names) (name_text name) ≡ false =
      not_true (is_among (before ++ names) (name_text name)) (sym (among_keys now.fields.entries (before ++ names) (name_text name) so.0) ∙ fresh) in (
        ap (map (λ entry. entry.0.items)) adds.0
            ∙ map-append (λ entry. entry.0.items) now.fields.entries _
            ∙ ap (λ t. t ++ name_text name ∷ []) so.0
            ∙ sym (map-append name_text (before ++ names) (name ∷ []))
            ∙ ap (map name_text) (append_assoc before names (name ∷ [])),
        repeats-more before names name ∙ (λ i. so.1 i || absent i),
      );
  built = λ forms fields bounds shape is part.
      subst (IsForm forms new)
      (append_twice fields (with_fields names bounds shape NoField) (MoreField (name_text name) bounds shape NoField)
      ∙ ap (append_fields fields) (sym (with_more names name bounds shape)))
      (form_more forms now new name.text field each (append_fields fields (with_fields names bounds shape NoField)) bounds shape adds (added.built forms fields bounds shape is part)
      (subst (λ b. IsPart forms b.items field each bounds shape) (sym added.bounded) part));
  bounded = adds.2 ∙ added.bounded;
}
  where
    not_true : (b : Bool) → not b ≡ true → b ≡ false
    not_true true h = absurd (true≢false (sym h))
    not_true false h = refl

-- a name that a field has already
pub added_twice : (old now : StructForm) (field : FieldForm) (each : Counts) (names rest : List Name) (name : Name) → Added old now field each names →
    false ≡ is_none (lookup (λ key. bytes_eq (name_text name) key.items) now.fields.entries) →
    (before : List Name) → AreNamed old.fields.entries before → has_repeats before (names ++ name ∷ rest) ≡ true
added_twice old now field each names rest name added twice before h =
    let so = added.named before h in
    let there : is_among (before ++ names) (name_text name) ≡ true =
    not_false (is_among (before ++ names) (name_text name)) (sym (among_keys now.fields.entries (before ++ names) (name_text name) so.0) ∙ sym twice) in
    subst (λ l. has_repeats before l ≡ true) (append_assoc names (name ∷ []) rest)
    (repeats_stay before (names ++ name ∷ []) rest (repeats-more before names name ∙ (λ i. so.1 i || there i)))
  where
    not_false : (b : Bool) → not b ≡ false → b ≡ true
    not_false true h = refl
    not_false false h = absurd (true≢false h)
