-- Types in which no rule is broken have shapes, and variables of them forms.
use Rattle.std.specs.Prelude.{◌≡◌, ℕ, zero, suc, ◌<◌, ◌≤◌, ℤ, Bool, false, not, ◌||◌, if◌then◌else◌, List, [], ◌∷◌, ◌++◌, length, map, Option, Some, None, option_map, slice_get, is_none}
use Rattle.std.specs.Option.{option_and_then}
use Rattle.std.specs.List.{AllByRecursion, flat_map, list_all}
use Rattle.std.proofs.Common.{refl, ap, ◌∙◌, arith, true≢false}
use Rattle.std.proofs.lemmas.Bool.{leb-false}
use Rattle.std.proofs.lemmas.Option.{none-some}
use Rattle.pearl_value.specs.declared.kind.Kind.TheVariants as kind
use Rattle.pearl_tree.specs.declared.fault.RuleFault.{RuleFault}
use Rattle.pearl_tree.specs.declared.rule.TheConstants as rule
use Rattle.pearl_tree.specs.declared.name.Name.{Name}
use Rattle.pearl_tree.specs.declared.typing.Bound.{Bound}
use Rattle.pearl_tree.specs.declared.typing.Basic.{Basic}
use Rattle.pearl_tree.specs.declared.typing.Basic.TheVariants.{Sized, Clock, Duration}
use Rattle.pearl_tree.specs.Faults.{fault_if}
use Rattle.pearl_tree.specs.Names.{name_text, names_of, is_among, repeats, has_repeats}
use Rattle.pearl_tree.specs.ShownDeclarations.{ShownTyping, OfBasic, OfStruct, OfNamed, ShownFields, NoFields, MoreFields}
use Rattle.pearl_names.specs.declared.scope.NameSort.{NameSort}
use Rattle.pearl_names.specs.declared.scope.NameSort.TheVariants as sort
use Rattle.pearl_names.specs.Lengths.{is_length, kind_of_length, length_at, kind_of_basic}
use Rattle.pearl_names.specs.Found.{sort_within}
use Rattle.pearl_names.specs.Shapes.{Shape, OfKind, OfFields, Fields, NoField, Around, bound_pair, is_sound_pair, sound_bound, sound_bounds, field_names, type_shape, meant_shape, with_fields, with_parts, shape_of, fields_of}
use Rattle.pearl_names.specs.Layout.{leaves_of, leaves_within, is_sound_leaf}
use Rattle.pearl_names.specs.Known.{Known}
use Rattle.pearl_names.specs.Tables.{sound_form}
use Rattle.pearl_scope.specs.Parts.{Part, Bounds, basic_parts, typing_parts, fields_parts}
use Rattle.pearl_scope.specs.Rules.{is_later_or_no_type, has_unsound_leaf, part_faults, faults_in}
use Rattle.pearl_sound.specs.KnownNames.{IsThereIn}
use Rattle.pearl_sound.proofs.ModuleEntries.{no_fault}
use Rattle.pearl_sound.proofs.SimpleStatements.{left_none, right_none, really, split_all}

-- no rule is broken in these parts
abbrev pub IsUnbroken : Known → Part → Type 0
IsUnbroken known part = part_faults known part ≡ []

abbrev pub AreUnbroken : Known → List Part → Type 0
AreUnbroken known parts = AllByRecursion (IsUnbroken known) parts

pub all_unbroken : (known : Known) (parts : List Part) → faults_in known parts ≡ [] → AreUnbroken known parts
unfolding faults_in
all_unbroken known [] none = tt
all_unbroken known (part ∷ rest) none = (
  left_none (part_faults known part) (flat_map (part_faults known) rest) none,
  all_unbroken known rest (right_none (part_faults known part) (flat_map (part_faults known) rest) none),
)

-- the first of some faults, where no others stand before it
pub first_kept : (broken : Bool) (place of : ℕ) (rest : List RuleFault) → fault_if broken place of ++ rest ≡ [] → broken ≡ false
first_kept broken place of rest none = (no_fault broken place of rest none).0

bound_known : (known : Known) (bound : Bound) → IsUnbroken known (Bounds bound) → IsThereIn (sound_bound bound)
bound_known known bound kept =
    let sound = really (is_sound_pair (bound_pair bound)) (first_kept (not (is_sound_pair (bound_pair bound))) bound.place rule.S5 [] kept) in
    (bound_pair bound, ap (λ test. if test then Some (bound_pair bound) else None) sound)

pub bounds_known : (known : Known) (bounds : List Bound) → AreUnbroken known (map Bounds bounds) → IsThereIn (sound_bounds bounds)
bounds_known known [] kept = ([], refl)
bounds_known known (bound ∷ rest) kept =
    let one = bound_known known bound kept.0 in
    let more = bounds_known known rest kept.1 in (
      one.0 ∷ more.0,
      ap (λ first. option_and_then (λ pair. option_map (λ pairs. pair ∷ pairs) (sound_bounds rest)) first) one.1 ∙
          ap (λ pairs. option_map (λ pairs. one.0 ∷ pairs) pairs) more.1,
    )

pub basic_known : (known : Known) (part : Basic) → AreUnbroken known (basic_parts part) → IsThereIn (kind_of_basic known.lengths part)
basic_known known (Sized of None place) kept = (kind_of_length of (length_at known.lengths of place), refl)
basic_known known (Sized of (Some number) place) kept =
    let sound = really (is_length of number.value) (first_kept (not (is_length of number.value)) number.place rule.S4 [] kept.0) in
    (kind_of_length of number.value, ap (λ test. if test then Some (kind_of_length of number.value) else None) sound)
basic_known known (Clock place) kept = (kind.Clock, refl)
basic_known known (Duration place) kept = (kind.Span, refl)

abbrev pub AllThere : List (Option Shape) → Type 0
AllThere shapes = AllByRecursion IsThereIn shapes

type_known : (shapes : List (Option Shape)) (number : ℕ) → AllThere shapes → number < length shapes → IsThereIn (type_shape (slice_get shapes number))
type_known [] number all less = absurd (omega (arith, less))
type_known (shape ∷ rest) zero all less = all.0
type_known (shape ∷ rest) (suc number) all less = type_known rest number all.1 (omega (arith, less))

-- a name that is used as a type is that of a TYPE before
meant_known : (shapes : List (Option Shape)) (types : ℕ) (found : Option NameSort) → AllThere shapes → types ≤ length shapes → is_none found ≡ false →
    is_later_or_no_type types found ≡ false → IsThereIn (meant_shape shapes found)
meant_known shapes types None all enough there before = absurd (true≢false there)
meant_known shapes types (Some (sort.NewType number)) all enough there before =
    let less = leb-false types number before in type_known shapes number all (omega (arith, less, enough))
meant_known shapes types other all enough there before = absurd (true≢false before)

none_twice : (before names : List Name) → repeats rule.S6 before names ≡ [] → has_repeats before names ≡ false
none_twice before [] none = refl
none_twice before (name ∷ names) none =
    let parts = no_fault (is_among before (name_text name)) name.place rule.S6 (repeats rule.S6 (before ++ name ∷ []) names) none in
    ap (λ b. b || has_repeats (before ++ name ∷ []) names) parts.0 ∙ none_twice (before ++ name ∷ []) names parts.1

parts_known : (names : List Name) (bounds : Option (List (ℤ × ℤ))) (shape : Option Shape) (rest : Option Fields) → IsThereIn bounds → IsThereIn shape →
    IsThereIn rest → IsThereIn (with_parts names bounds shape rest)
parts_known names None shape rest one two more = absurd (none-some one.0 one.1)
parts_known names (Some bounds) None rest one two more = absurd (none-some two.0 two.1)
parts_known names (Some bounds) (Some shape) None one two more = absurd (none-some more.0 more.1)
parts_known names (Some bounds) (Some shape) (Some rest) one two more = (with_fields names bounds shape rest, refl)

-- what is seen from a scope behind TYPEs of these shapes
abbrev pub seen_with : Known → List (Option Shape) → ℕ → Around
seen_with known shapes scope = record { scopes = known.scopes; lengths = known.lengths; shapes = shapes; scope = scope }

mutual
  pub shape_known : (known : Known) (shapes : List (Option Shape)) (scope types : ℕ) → AllThere shapes → types ≤ length shapes → (part : ShownTyping) →
      AreUnbroken known (typing_parts scope types part) → IsThereIn (shape_of (seen_with known shapes scope) part)
  shape_known known shapes scope types all enough (OfBasic part) kept =
      let found = basic_known known part kept in (OfKind found.0, ap (option_map OfKind) found.1)
  shape_known known shapes scope types all enough (OfStruct fields place) kept =
      let here = seen_with known shapes scope in
      let inner = fields_known known shapes scope types all enough fields kept.1 in
      let once = none_twice [] (field_names fields) (left_none (repeats rule.S6 [] (field_names fields)) [] kept.0) in (
        OfFields inner.0,
        ap (λ twice. if twice then None else option_map OfFields (fields_of here fields)) once ∙ ap (option_map OfFields) inner.1,
      )
  shape_known known shapes scope types all enough (OfNamed name) kept =
      let found = sort_within known.scopes scope (name_text name) in
      meant_known shapes types found all enough (first_kept (is_none found) name.place rule.S2 [] kept.0)
      (first_kept (is_later_or_no_type types found) name.place rule.S3 [] kept.1.0)

  fields_known : (known : Known) (shapes : List (Option Shape)) (scope types : ℕ) → AllThere shapes → types ≤ length shapes → (fields : ShownFields) →
      AreUnbroken known (fields_parts scope types fields) → IsThereIn (fields_of (seen_with known shapes scope) fields)
  fields_known known shapes scope types all enough NoFields kept = (NoField, refl)
  fields_known known shapes scope types all enough (MoreFields names bounds part place rest) kept =
      let here = seen_with known shapes scope in
      let outer = split_all (IsUnbroken known) (map Bounds bounds) (typing_parts scope types part ++ fields_parts scope types rest) kept in
      let inner = split_all (IsUnbroken known) (typing_parts scope types part) (fields_parts scope types rest) outer.1 in
      parts_known (names_of names) (sound_bounds bounds) (shape_of here part) (fields_of here rest) (bounds_known known bounds outer.0)
      (shape_known known shapes scope types all enough part inner.0) (fields_known known shapes scope types all enough rest inner.1)

pub form_known : (bounds : Option (List (ℤ × ℤ))) (shape : Option Shape) → IsThereIn bounds → IsThereIn shape →
    has_unsound_leaf (leaves_within bounds shape) ≡ false → IsThereIn (sound_form bounds shape)
form_known None shape one two sound = absurd (none-some one.0 one.1)
form_known (Some bounds) None one two sound = absurd (none-some two.0 two.1)
form_known (Some bounds) (Some shape) one two sound = (
  record { bounds = bounds; shape = shape },
  ap (λ test. if test then Some (record { bounds = bounds; shape = shape }) else None) (really (list_all is_sound_leaf (leaves_of [] bounds shape)) sound),
)
