-- The forms of written types, field by field.
use Rattle.std.proofs.Common.{◌≡◌, ℕ, zero, suc, ℤ, Bool, true, false, cond, ◌||◌, List, [], ◌∷◌, ◌++◌, map, length, take, slice_get, Option, Some, None, option_map, Result, Ok, Err, refl, sym, ap, subst, ◌∙◌, append_assoc, append-nil}
use Rattle.std.specs.Result.{OnErr}
use Rattle.std.proofs.Math.Seq.{take-append_seam}
use Rattle.std.proofs.lemmas.Option.{same_Some, none-some}
use Rattle.pearl_tree.specs.declared.typing.Field.{Field}
use Rattle.pearl_tree.specs.ShownDeclarations.{MoreFields, OfStruct, shown_names, shown_typing}
use Rattle.pearl_tree.specs.Names.{name_text, names_of, has_repeats, is_among}
use Rattle.pearl_names.specs.Shapes.{Shape, OfKind, OfFields, Fields, NoField, MoreField, Around, with_fields, with_parts, shape_of, fields_of, field_names, sound_bounds, type_shape}
use Rattle.pearl_tree.specs.declared.name.Name.{Name}
use mathlib.Core.Former.{Count}
use Rattle.pearl_value.specs.declared.kind.Kind.{Kind}
use Rattle.pearl_tree.specs.declared.parts.Parts.{Parts}
use Rattle.pearl_tree.specs.ShownDeclarations.{shown_fields}
use Rattle.pearl_tree.specs.declared.typing.Typing.{Typing, Struct as Struct-typing, Struct', Row_of-Field, end_of-Field, more_of-Field, items-the_row-Field, items_hidden-the_row-Field-0}
use Rattle.pearl_names.specs.declared.types.TypeRef.{TypeRef}
use Rattle.pearl_names.specs.declared.types.TypeRef.TheVariants.{Basic, Struct}
use Rattle.pearl_names.specs.declared.types.StructForm.{StructForm}
use Rattle.pearl_names.specs.Forms.{pair_of, StandsFor, FieldsStand, AllBounded, Matches, IsForm, AreNamed, append_fields}
use Rattle.pearl_names.specs.Forming.{fields_shown, AllMatch, Grows, Has, Made, struct_shape}
use Rattle.pearl_names.specs.declared.sense.Bounds.{Bounds}
use Rattle.pearl_names.specs.Chains.{only_end}
use Rattle.pearl_names.specs.Leaps.{LeapStands}
use Rattle.pearl_names.specs.Counts.{counts}
use Rattle.pearl_names.specs.Runs.{tails_of}
use Rattle.pearl_names.proofs.Standing.{stands_more, fields_more}

-- the form of a TYPE, by its number
pub named_form : (forms : List StructForm) (named : List (Option TypeRef)) (shapes : List (Option Shape)) (n : ℕ) (part : Option TypeRef) →
    AllMatch forms named shapes → slice_get named n ≡ Some part → Matches forms part (type_shape (slice_get shapes n))
named_form forms [] [] n part h e = absurd (none-some part e)
named_form forms (p ∷ named) (s ∷ shapes) zero part h e = subst (λ q. Matches forms q s) (same_Some p part e) h.0
named_form forms (p ∷ named) (s ∷ shapes) (suc n) part h e = named_form forms named shapes n part h.1 e
named_form forms [] (s ∷ shapes) n part h e = absurd h
named_form forms (p ∷ named) [] n part h e = absurd h

pub named_none : (forms : List StructForm) (named : List (Option TypeRef)) (shapes : List (Option Shape)) (n : ℕ) →
    AllMatch forms named shapes → slice_get named n ≡ None → Matches forms None (type_shape (slice_get shapes n))
named_none forms [] [] n h e = tt
named_none forms (p ∷ named) (s ∷ shapes) zero h e = absurd (none-some p (sym e))
named_none forms (p ∷ named) (s ∷ shapes) (suc n) h e = named_none forms named shapes n h.1 e
named_none forms [] (s ∷ shapes) n h e = absurd h
named_none forms (p ∷ named) [] n h e = absurd h

-- it stays where more forms come
matches_more : (forms more : List StructForm) (part : Option TypeRef) (shape : Option Shape) → Matches forms part shape → Matches (forms ++ more) part shape
matches_more forms more None None h = h
matches_more forms more (Some part) (Some shape) h = stands_more forms more part shape h
matches_more forms more None (Some shape) h = absurd h
matches_more forms more (Some part) None h = absurd h

pub all_match_more : (old new : List StructForm) (named : List (Option TypeRef)) (shapes : List (Option Shape)) → Grows old new → AllMatch old named shapes → AllMatch new named shapes
all_match_more old new named shapes grows h = subst (λ l. AllMatch l named shapes) (sym grows.is) (by old grows.more named shapes h)
  where
    by : (forms more : List StructForm) (named : List (Option TypeRef)) (shapes : List (Option Shape)) → AllMatch forms named shapes → AllMatch (forms ++ more) named shapes
    by forms more [] [] h = h
    by forms more (p ∷ named) (s ∷ shapes) h = (matches_more forms more p s h.0, by forms more named shapes h.1)
    by forms more [] (s ∷ shapes) h = absurd h
    by forms more (p ∷ named) [] h = absurd h

pub grows_more : (a b c : List StructForm) → Grows a b → Grows b c → Grows a c
grows_more a b c one two = record { more = one.more ++ two.more; is = two.is ∙ ap (λ t. t ++ two.more) one.is ∙ append_assoc a one.more two.more }

-- what holds in any case holds after want of memory
pub kept_on_err : {X E P : Type 0} (answer : Result X E) → P → OnErr answer P
kept_on_err (Ok value) holds = tt
kept_on_err (Err error) holds = holds

pub grows_none : (a : List StructForm) → Grows a a
grows_none a = record { more = []; is = sym (append-nil a) }

form_grows : (old new : List StructForm) (form : StructForm) (fields : Fields) → Grows old new → IsForm old form fields → IsForm new form fields
form_grows old new form fields grows is = record {
  stand = subst (λ l. FieldsStand l 0 0 form.fields.entries fields) (sym grows.is) (fields_more old grows.more 0 0 form.fields.entries fields is.stand);
  counted = is.counted;
  bounded = is.bounded;
}

-- the fields of one list, and then those of another
joined_fields : Option Fields → Option Fields → Option Fields
joined_fields (Some a) (Some b) = Some (append_fields a b)
joined_fields a b = None

with_append : (names : List Name) (bounds : List (ℤ × ℤ)) (shape : Shape) (a b : Fields) →
    with_fields names bounds shape (append_fields a b) ≡ append_fields (with_fields names bounds shape a) b
with_append [] bounds shape a b = refl
with_append (name ∷ names) bounds shape a b = ap (λ t. MoreField (name_text name) bounds shape t) (with_append names bounds shape a b)

parts_joined : (names : List Name) (bounds : Option (List (ℤ × ℤ))) (shape : Option Shape) (a b : Option Fields) →
    with_parts names bounds shape (joined_fields a b) ≡ joined_fields (with_parts names bounds shape a) b
unfolding joined_fields
parts_joined names (Some bounds) (Some shape) (Some a) (Some b) = ap Some (with_append names bounds shape a b)
parts_joined names (Some bounds) (Some shape) (Some a) None = refl
parts_joined names (Some bounds) (Some shape) None b = refl
parts_joined names (Some bounds) None a b = refl
parts_joined names None shape a b = refl

none_first : (b : Option Fields) → b ≡ joined_fields (Some NoField) b
unfolding joined_fields
none_first None = refl
none_first (Some b) = refl

fields_joined : (around : Around) (xs ys : List Field) →
    fields_of around (fields_shown (xs ++ ys)) ≡ joined_fields (fields_of around (fields_shown xs)) (fields_of around (fields_shown ys))
fields_joined around [] ys = none_first (fields_of around (fields_shown ys))
fields_joined around (x ∷ xs) ys =
    ap (with_parts (names_of (shown_names x.names)) (sound_bounds x.bounds.items.items) (shape_of around (shown_typing x.typing))) (fields_joined around xs ys)
    ∙ parts_joined (names_of (shown_names x.names)) (sound_bounds x.bounds.items.items) (shape_of around (shown_typing x.typing)) (fields_of around (fields_shown xs)) (fields_of around (fields_shown ys))

names_joined : (xs ys : List Field) → field_names (fields_shown (xs ++ ys)) ≡ field_names (fields_shown xs) ++ field_names (fields_shown ys)
names_joined [] ys = refl
names_joined (x ∷ xs) ys =
    ap (λ t. names_of (shown_names x.names) ++ t) (names_joined xs ys) ∙ sym (append_assoc (names_of (shown_names x.names)) _ _)

joined_none : (a b : Option Fields) → b ≡ None → joined_fields a b ≡ None
unfolding joined_fields
joined_none None b h = refl
joined_none (Some a) None h = refl
joined_none (Some a) (Some b) h = absurd (none-some b (sym h))

-- a part that has no bounds or no shape
pub no_fields : (around : Around) (xs rest : List Field) (x : Field) →
    (with_parts (names_of (shown_names x.names)) (sound_bounds x.bounds.items.items) (shape_of around (shown_typing x.typing)) (fields_of around (fields_shown rest)) ≡ None) →
    fields_of around (fields_shown (xs ++ x ∷ rest)) ≡ None
no_fields around xs rest x none = fields_joined around xs (x ∷ rest) ∙ joined_none _ _ none

repeats-append : (before a b : List Name) → has_repeats before (a ++ b) ≡ (has_repeats before a || has_repeats (before ++ a) b)
repeats-append before [] b = ap (λ l. has_repeats l b) (sym (append-nil before))
repeats-append before (name ∷ a) b =
    ap (λ c. is_among before (name_text name) || c) (repeats-append (before ++ name ∷ []) a b
    ∙ ap (λ l. has_repeats (before ++ name ∷ []) a || has_repeats l b) (append_assoc before (name ∷ []) a))
    ∙ sym (or_assoc (is_among before (name_text name)) (has_repeats (before ++ name ∷ []) a) (has_repeats (before ++ name ∷ a) b))
  where
    or_assoc : (a b c : Bool) → ((a || b) || c) ≡ (a || (b || c))
    or_assoc true b c = refl
    or_assoc false b c = refl

pub made_none : (old : List StructForm) (named : List (Option TypeRef)) (around : List (Option Shape) → Around) (form : StructForm) → form.fields.entries ≡ [] →
    form.counts ≡ record { leaves = 0; slots = 0; dimensions = 0; greatest = 0; longest = 0 } → Made old old named around form []
unfolding StandsFor counts
made_none old named around form empty zeros = record {
  grows = grows_none old;
  named_so = ap (map (λ entry. entry.0.items)) empty;
  once = refl;
  has = λ shapes h. record {
    shape = NoField;
    is = refl;
    stands = record { stand = subst (λ l. FieldsStand old 0 0 l NoField) (sym empty) tt; counted = zeros; bounded = subst (λ l. AllBounded form.bounds.items l NoField) (sym empty) tt };
  };
}

pub made_more : (old mid new : List StructForm) (named : List (Option TypeRef)) (around : List (Option Shape) → Around) (built now : StructForm) (xs : List Field) (x : Field) (own : List Bounds) (part : TypeRef) →
    Made old mid named around built xs → Grows mid new →
    ((shapes : List (Option Shape)) → AllMatch mid named shapes → Matches new (Some part) (shape_of (around shapes) (shown_typing x.typing))) →
    Some (map pair_of own) ≡ sound_bounds x.bounds.items.items →
    ((before : List Name) → AreNamed built.fields.entries before → AreNamed now.fields.entries (before ++ names_of (shown_names x.names)) × (has_repeats before (names_of (shown_names x.names)) ≡ false)) →
    ((fields : Fields) (bounds : List (ℤ × ℤ)) (shape : Shape) → IsForm new built fields → map pair_of own ≡ bounds → StandsFor new part shape →
    IsForm new now (append_fields fields (with_fields (names_of (shown_names x.names)) bounds shape NoField))) →
    Made old new named around now (xs ++ x ∷ [])
unfolding joined_fields
made_more old mid new named around built now xs x own part made grows matches sized fresh added = record {
  grows = grows_more old mid new made.grows grows;
  named_so = (fresh (field_names (fields_shown xs)) made.named_so).0 ∙ ap (map name_text) (sym names);
  once = ap (has_repeats []) names ∙ repeats-append [] (field_names (fields_shown xs)) (names_of (shown_names x.names))
      ∙ (λ i. made.once i || (fresh (field_names (fields_shown xs)) made.named_so).1 i);
  has = λ shapes all.
      more shapes (made.has shapes all) (sound_bounds x.bounds.items.items) refl (shape_of (around shapes) (shown_typing x.typing)) refl sized
      (matches shapes (all_match_more old mid named shapes made.grows all));
}
  where
    names : field_names (fields_shown (xs ++ x ∷ [])) ≡ field_names (fields_shown xs) ++ names_of (shown_names x.names)
    names = names_joined xs (x ∷ []) ∙ ap (λ t. field_names (fields_shown xs) ++ t) (append-nil (names_of (shown_names x.names)))

    more : (shapes : List (Option Shape)) → Has (around shapes) mid built xs → (b : Option (List (ℤ × ℤ))) → sound_bounds x.bounds.items.items ≡ b →
        (s : Option Shape) → shape_of (around shapes) (shown_typing x.typing) ≡ s → Some (map pair_of own) ≡ b → Matches new (Some part) s → Has (around shapes) new now (xs ++ x ∷ [])
    more shapes has (Some bounds) eb (Some shape) es so h = record {
      shape = append_fields has.shape (with_fields (names_of (shown_names x.names)) bounds shape NoField);
      is = fields_joined (around shapes) xs (x ∷ [])
          ∙ (λ i. joined_fields (has.is i) (with_parts (names_of (shown_names x.names)) (eb i) (es i) (Some NoField)));
      stands = added has.shape bounds shape (form_grows mid new built has.shape grows has.stands) (same_Some (map pair_of own) bounds so) h;
    }
    more shapes has None eb s es so h = absurd (none-some (map pair_of own) (sym so))
    more shapes has (Some bounds) eb None es so h = absurd h

struct_none : (around : Around) (fields : List Field) → fields_of around (fields_shown fields) ≡ None → struct_shape around fields ≡ None
struct_none around fields h = by (has_repeats [] (field_names (fields_shown fields))) ∙ either (has_repeats [] (field_names (fields_shown fields)))
  where
    by : (b : Bool) → cond b None (option_map OfFields (fields_of around (fields_shown fields))) ≡ cond {A = Option Shape} b None None
    by b = ap (λ o. cond b None (option_map OfFields o)) h

    either : (b : Bool) → cond {A = Option Shape} b None None ≡ None
    either true = refl
    either false = refl

struct_twice : (around : Around) (fields : List Field) → has_repeats [] (field_names (fields_shown fields)) ≡ true → struct_shape around fields ≡ None
struct_twice around fields h = ap (λ b. cond b None (option_map OfFields (fields_of around (fields_shown fields)))) h

-- a field has no sound bounds
pub unsized : (new : List StructForm) (around : Around) (xs rest : List Field) (x : Field) → None ≡ sound_bounds x.bounds.items.items →
    Matches new None (struct_shape around (xs ++ x ∷ rest))
unsized new around xs rest x h =
    subst (Matches new None) (sym (struct_none around (xs ++ x ∷ rest) (no_fields around xs rest x
    (ap (λ b. with_parts (names_of (shown_names x.names)) b (shape_of around (shown_typing x.typing)) (fields_of around (fields_shown rest))) (sym h))))) tt

-- a field has no shape
pub unshaped : (new : List StructForm) (around : Around) (xs rest : List Field) (x : Field) → Matches new None (shape_of around (shown_typing x.typing)) →
    Matches new None (struct_shape around (xs ++ x ∷ rest))
unshaped new around xs rest x h =
    subst (Matches new None) (sym (struct_none around (xs ++ x ∷ rest) (no_fields around xs rest x
    (ap (λ s. with_parts (names_of (shown_names x.names)) (sound_bounds x.bounds.items.items) s (fields_of around (fields_shown rest))) (none_of (shape_of around (shown_typing x.typing)) h)
    ∙ parts_none (sound_bounds x.bounds.items.items))))) tt
  where
    none_of : (s : Option Shape) → Matches new None s → s ≡ None
    none_of None h = refl
    none_of (Some s) h = absurd h

    parts_none : (b : Option (List (ℤ × ℤ))) → with_parts (names_of (shown_names x.names)) b None (fields_of around (fields_shown rest)) ≡ None
    parts_none None = refl
    parts_none (Some b) = refl

-- a field has a name of one before
pub renamed : (old mid new : List StructForm) (named : List (Option TypeRef)) (arounds : List (Option Shape) → Around) (built : StructForm) (around : Around) (xs rest : List Field) (x : Field) →
    Made old mid named arounds built xs →
    ((before : List Name) → AreNamed built.fields.entries before → has_repeats before (names_of (shown_names x.names)) ≡ true) →
    Matches new None (struct_shape around (xs ++ x ∷ rest))
renamed old mid new named arounds built around xs rest x made twice =
    subst (Matches new None) (sym (struct_twice around (xs ++ x ∷ rest)
    (ap (has_repeats []) (names_joined xs (x ∷ rest))
    ∙ repeats-append [] (field_names (fields_shown xs)) _
    ∙ (λ i. made.once i || repeats-append (field_names (fields_shown xs)) (names_of (shown_names x.names)) (field_names (fields_shown rest)) i)
    ∙ ap (λ b. b || has_repeats (field_names (fields_shown xs) ++ names_of (shown_names x.names)) (field_names (fields_shown rest)))
    (twice (field_names (fields_shown xs)) made.named_so)))) tt

last_of : (forms : List StructForm) (form : StructForm) → slice_get (forms ++ form ∷ []) (length forms) ≡ Some form
last_of [] form = refl
last_of (f ∷ forms) form = last_of forms form

-- the form is kept behind the others
pub kept : (old now new : List StructForm) (named : List (Option TypeRef)) (around : List (Option Shape) → Around) (form tailed : StructForm) (fields : List Field) (part : TypeRef) → Made old now named around form fields →
    tailed ≡ record form { tails = tailed.tails; end = tailed.end; leap = tailed.leap } → ((own : Fields) → FieldsStand now 0 0 form.fields.entries own → tailed.tails.items ≡ tails_of own) →
    tailed.end ≡ only_end now tailed.fields.entries → ((own : Fields) → FieldsStand now 0 0 form.fields.entries own → LeapStands now tailed.leap form.fields.entries own) → new ≡ now ++ tailed ∷ [] → part ≡ Struct (length now) → (shapes : List (Option Shape)) → AllMatch old named shapes → Matches new (Some part) (struct_shape (around shapes) fields)
unfolding StandsFor
kept old now new named around form tailed fields part made same tails end leap is number shapes all =
    let has = made.has shapes all in
    let entries = ap (λ f. f.fields.entries) same in
    let earlier : take (length now) (now ++ tailed ∷ []) ≡ now = take-append_seam now (tailed ∷ []) in
    rw (is, number, made.once, has.is) (
      tailed,
      last_of now tailed,
      subst (λ l. FieldsStand l 0 0 tailed.fields.entries has.shape) (sym earlier) (subst (λ es. FieldsStand now 0 0 es has.shape) (sym entries) has.stands.stand),
      ap (λ f. f.counts) same ∙ has.stands.counted,
      tails has.shape has.stands.stand,
      subst (λ f. AllBounded f.bounds.items f.fields.entries has.shape) (sym same) has.stands.bounded,
      end ∙ ap (λ l. only_end l tailed.fields.entries) (sym earlier),
      subst (λ l. LeapStands l tailed.leap tailed.fields.entries has.shape) (sym earlier)
          (subst (λ es. LeapStands now tailed.leap es has.shape) (sym entries) (leap has.shape has.stands.stand)),
    )

pub kept_grows : (old now new : List StructForm) (form : StructForm) → Grows old now → new ≡ now ++ form ∷ [] → Grows old new
kept_grows old now new form grows is = grows_more old now new grows (record { more = form ∷ []; is = is })

fields_list : (n : _) (row : Row_of-Field n) → shown_fields row ≡ fields_shown (items-the_row-Field n row)
fields_list _ end_of-Field = refl
fields_list _ (more_of-Field names bounds part place rest) =
    ap (λ t. MoreFields (shown_names names) bounds.items.items (shown_typing part) place t) (fields_list _ rest)

abbrev row_in : Typing → (n : Count) × Row_of-Field n
row_in (Struct' _ row _) = (_, row)
row_in _ = (_, end_of-Field)

pub struct_shown : (fields : Parts Field) (place : ℕ) → shown_typing (Struct-typing fields place) ≡ OfStruct (fields_shown fields.items.items) place
struct_shown fields place =
    let row = row_in (Struct-typing fields place) in
    ap (λ t. OfStruct t place) (fields_list row.0 row.1 ∙ ap fields_shown (items_hidden-the_row-Field-0 fields.items))

pub basic_matches : (forms : List StructForm) (kind : Option Kind) → Matches forms (option_map Basic kind) (option_map OfKind kind)
unfolding StandsFor
basic_matches forms None = tt
basic_matches forms (Some kind) = refl
