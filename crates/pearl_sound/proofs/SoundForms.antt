-- What names stand for is sound.
use Rattle.std.specs.Prelude.{◌≡◌, ℕ, zero, suc, ◌+◌, ℤ, pos, negsuc, neg_ℤ, ◌-◌, ◌^◌, ◌≤ℤ◌, int_le, int_lt, Bool, true, false, ◌&&◌, if◌then◌else◌, List, [], ◌∷◌, ◌++◌, take, Option, Some, None, option_map, unwrap_or, slice_get, nat_le, map}
use Rattle.std.specs.Option.{option_and_then}
use Rattle.std.specs.List.{AllByRecursion, flat_map, list_all}
use Rattle.std.proofs.Common.{refl, ap, ◌∙◌, sym, arith, true≢false}
use Rattle.std.proofs.lemmas.Int.{ints}
use Rattle.std.proofs.lemmas.Bool.{leb-true}
use Rattle.pearl_value.specs.declared.kind.Kind.{Kind}
use Rattle.pearl_value.specs.Kinds.{IsKind}
use Rattle.pearl_tree.specs.declared.name.Name.{Name}
use Rattle.pearl_tree.specs.declared.typing.Bound.{Bound}
use Rattle.pearl_tree.specs.declared.typing.Basic.{Basic}
use Rattle.pearl_tree.specs.declared.typing.Basic.TheVariants.{Sized}
use Rattle.pearl_tree.specs.declared.typing.Sort.{Sort}
use Rattle.pearl_tree.specs.declared.typing.Sort.TheVariants.{Fixed, Bit, Char}
use Rattle.pearl_value.specs.declared.device.Direction.{Direction}
use Rattle.pearl_tree.specs.declared.declaration.Class.{Class}
use Rattle.pearl_tree.specs.declared.declaration.Class.TheVariants as class
use Rattle.pearl_tree.specs.Names.{name_text, names_of, has_repeats}
use Rattle.pearl_tree.specs.ShownDeclarations.{ShownTyping, OfBasic, OfStruct, OfNamed, ShownFields, NoFields, MoreFields, ShownParam}
use Rattle.pearl_tree.specs.ShownModules.{ShownDecl, OfType, ShownTree}
use Rattle.pearl_names.specs.declared.length.DefaultLength.{DefaultLength}
use Rattle.pearl_names.specs.declared.scope.NameSort.{NameSort}
use Rattle.pearl_names.specs.declared.scope.NameSort.TheVariants.{NewType as TypeNumber}
use Rattle.pearl_names.specs.Lengths.{is_length, kind_of_length, is_same_sort, first_length, holds_at, last_length, length_at, kind_of_basic, lengths_set}
use Rattle.pearl_names.specs.Found.{sort_within}
use Rattle.pearl_names.specs.ScopeNames.{ScopeNames}
use Rattle.pearl_names.specs.Scopes.{Meaning, Entry, Scope, scopes_of}
use Rattle.pearl_names.specs.Scopes as scopes
use Rattle.pearl_names.specs.Sorts.{names_of_scopes}
use Rattle.pearl_names.specs.Shapes.{Shape, OfKind, OfFields, Fields, Around, bound_pair, is_sound_pair, is_in_range, sound_bound, sound_bounds, field_names, type_shape, meant_shape, with_fields, with_parts, shape_of, fields_of, decl_shapes, shapes_after}
use Rattle.pearl_names.specs.Layout.{leaves_of, is_sound_leaf}
use Rattle.pearl_names.specs.Known.{Known, known_of, around}
use Rattle.pearl_names.specs.Tables.{Parameter, parameters_of, sound_form, dation_sense, sense_of, senses_of, senses_in, table_of}
use Rattle.pearl_program.specs.Typing.{IsBound}
use Rattle.pearl_resolve.specs.Expressions.{bound_of}
use Rattle.pearl_resolve.specs.Numbers.{senses_at}
use Rattle.pearl_sound.specs.SoundForms.{AreBounds, HasBounds, FieldsHaveBounds, HasSoundForm, IsKindIf, IsResultIf, IsSoundSense}
use Rattle.pearl_sound.proofs.Literals.{IsSet, all_set}
use Rattle.pearl_sound.proofs.Subscripting.{both}

int_at_most : (a b : ℤ) → int_le a b ≡ true → a ≤ℤ b
int_at_most a b is = grind (arith, ints, is)

in_range_low : (a : ℤ) → int_le (neg_ℤ (pos (2 ^ 31))) a ≡ true → negsuc (2 ^ 31 - 1) ≤ℤ a
in_range_low a is = grind (arith, ints, is)

in_range_high : (a : ℤ) → int_lt a (pos (2 ^ 31)) ≡ true → a ≤ℤ pos (2 ^ 31 - 1)
in_range_high a is = grind (arith, ints, is)

bound_sound : (pair : ℤ × ℤ) → is_sound_pair pair ≡ true → IsBound (bound_of pair)
bound_sound pair is =
    let tests = both (int_le pair.0 pair.1) (is_in_range pair.0 && is_in_range pair.1) is in
    let ranges = both (is_in_range pair.0) (is_in_range pair.1) tests.1 in
    let low = both (int_le (neg_ℤ (pos (2 ^ 31))) pair.0) (int_lt pair.0 (pos (2 ^ 31))) ranges.0 in
    let high = both (int_le (neg_ℤ (pos (2 ^ 31))) pair.1) (int_lt pair.1 (pos (2 ^ 31))) ranges.1 in
    record { rising = int_at_most pair.0 pair.1 tests.0; low = in_range_low pair.0 low.0; high = in_range_high pair.1 high.1 }

abbrev IfSome : {X : Type 0} → (X → Type 0) → Option X → Type 0
IfSome P None = Unit {0}
IfSome P (Some x) = P x

pair_there : (pair : ℤ × ℤ) → IfSome (λ p. IsBound (bound_of p)) (if is_sound_pair pair then Some pair else None)
pair_there pair = by (is_sound_pair pair) refl
  where
    by : (test : Bool) → is_sound_pair pair ≡ test → IfSome (λ p. IsBound (bound_of p)) (if test then Some pair else None)
    by true is = bound_sound pair is
    by false is = tt

one_more : (first : Option (ℤ × ℤ)) (rest : Option (List (ℤ × ℤ))) → IfSome (λ p. IsBound (bound_of p)) first → IfSome AreBounds rest →
    IfSome AreBounds (option_and_then (λ pair. option_map (λ pairs. pair ∷ pairs) rest) first)
one_more None rest one more = tt
one_more (Some pair) None one more = tt
one_more (Some pair) (Some pairs) one more = (one, more)

bounds_there : (bounds : List Bound) → IfSome AreBounds (sound_bounds bounds)
bounds_there [] = tt
bounds_there (bound ∷ rest) = one_more (sound_bound bound) (sound_bounds rest) (pair_there (bound_pair bound)) (bounds_there rest)

-- kinds
abbrev pub AreSet : List DefaultLength → Type 0
AreSet lengths = AllByRecursion IsSet lengths

length_kind : (of : Sort) (len : ℕ) → is_length of len ≡ true → IsKind (kind_of_length of len)
length_kind Fixed len is = let tests = both (nat_le 1 len) (nat_le len 63) is in let low = leb-true 1 len tests.0 in (omega (arith, low), leb-true len 63 tests.1)
length_kind Bit len is = let tests = both (nat_le 1 len) (nat_le len 64) is in let low = leb-true 1 len tests.0 in (omega (arith, low), leb-true len 64 tests.1)
length_kind Char len is = let tests = both (nat_le 1 len) (nat_le len 255) is in let low = leb-true 1 len tests.0 in (omega (arith, low), leb-true len 255 tests.1)

same_sorts : (one two : Sort) → is_same_sort one two ≡ true → one ≡ two
same_sorts Fixed Fixed is = refl
same_sorts Bit Bit is = refl
same_sorts Char Char is = refl
same_sorts one two is = absurd (true≢false (sym is))

last_set : (lengths : List DefaultLength) (len : ℕ) (of : Sort) (place : ℕ) → AreSet lengths → is_length of len ≡ true →
    is_length of (last_length len lengths of place) ≡ true
last_set [] len of place set is = is
last_set (default ∷ rest) len of place set is =
    last_set rest (if holds_at default of place then default.len else len) of place set.1 (by (holds_at default of place) refl)
  where
    by : (test : Bool) → holds_at default of place ≡ test → is_length of (if test then default.len else len) ≡ true
    by true e = ap (λ s. is_length s default.len) (sym (same_sorts default.sort of (both (is_same_sort default.sort of) (nat_le default.place place) e).0)) ∙ set.0
    by false e = is

first_set : (of : Sort) → is_length of (first_length of) ≡ true
first_set Fixed = refl
first_set other = refl

pub at_kind : (lengths : List DefaultLength) → AreSet lengths → (of : Sort) (place : ℕ) → IsKind (kind_of_length of (length_at lengths of place))
at_kind lengths set of place = length_kind of (length_at lengths of place) (last_set lengths (first_length of) of place set (first_set of))

given_kind : (of : Sort) (len : ℕ) (test : Bool) → is_length of len ≡ test → IsKindIf (if test then Some (kind_of_length of len) else None)
given_kind of len true is = length_kind of len is
given_kind of len false is = tt

pub basic_there : (lengths : List DefaultLength) → AreSet lengths → (part : Basic) → IsKindIf (kind_of_basic lengths part)
basic_there lengths set (Sized of None place) = at_kind lengths set of place
basic_there lengths set (Sized of (Some number) place) = given_kind of number.value (is_length of number.value) refl
basic_there lengths set other = tt

kind_there : (kind : Option Kind) → IsKindIf kind → IfSome HasBounds (option_map OfKind kind)
kind_there None is = tt
kind_there (Some kind) is = is

struct_there : (twice : Bool) (fields : Option Fields) → IfSome FieldsHaveBounds fields →
    IfSome HasBounds (if twice then None else option_map OfFields fields)
struct_there true fields there = tt
struct_there false None there = tt
struct_there false (Some fields) there = there

abbrev AreShapes : List (Option Shape) → Type 0
AreShapes shapes = AllByRecursion (IfSome HasBounds) shapes

type_there : (shapes : List (Option Shape)) (number : ℕ) → AreShapes shapes → IfSome HasBounds (type_shape (slice_get shapes number))
type_there [] number all = tt
type_there (None ∷ rest) zero all = tt
type_there (Some shape ∷ rest) zero all = all.0
type_there (shape ∷ rest) (suc number) all = type_there rest number all.1

meant_there : (shapes : List (Option Shape)) (sort : Option NameSort) → AreShapes shapes → IfSome HasBounds (meant_shape shapes sort)
meant_there shapes (Some (TypeNumber number)) all = type_there shapes number all
meant_there shapes sort all = tt

fields_with : (names : List Name) (bounds : List (ℤ × ℤ)) (shape : Shape) (rest : Fields) → AreBounds bounds → HasBounds shape →
    FieldsHaveBounds rest → FieldsHaveBounds (with_fields names bounds shape rest)
fields_with [] bounds shape rest sound has more = more
fields_with (name ∷ names) bounds shape rest sound has more = (sound, has, fields_with names bounds shape rest sound has more)

parts_there : (names : List Name) (bounds : Option (List (ℤ × ℤ))) (shape : Option Shape) (rest : Option Fields) → IfSome AreBounds bounds →
    IfSome HasBounds shape → IfSome FieldsHaveBounds rest → IfSome FieldsHaveBounds (with_parts names bounds shape rest)
parts_there names None shape rest sound has more = tt
parts_there names (Some bounds) None rest sound has more = tt
parts_there names (Some bounds) (Some shape) None sound has more = tt
parts_there names (Some bounds) (Some shape) (Some rest) sound has more = fields_with names bounds shape rest sound has more

mutual
  shape_there : (here : Around) → AreSet here.lengths → AreShapes here.shapes → (part : ShownTyping) → IfSome HasBounds (shape_of here part)
  shape_there here set all (OfBasic basic) = kind_there (kind_of_basic here.lengths basic) (basic_there here.lengths set basic)
  shape_there here set all (OfStruct fields place) =
      struct_there (has_repeats [] (field_names fields)) (fields_of here fields) (fields_there here set all fields)
  shape_there here set all (OfNamed name) = meant_there here.shapes (sort_within here.scopes here.scope (name_text name)) all

  fields_there : (here : Around) → AreSet here.lengths → AreShapes here.shapes → (fields : ShownFields) → IfSome FieldsHaveBounds (fields_of here fields)
  fields_there here set all NoFields = tt
  fields_there here set all (MoreFields names bounds part place rest) =
      parts_there (names_of names) (sound_bounds bounds) (shape_of here part) (fields_of here rest) (bounds_there bounds)
      (shape_there here set all part) (fields_there here set all rest)

pub all_append : {X : Type 0} (P : X → Type 0) (xs ys : List X) → AllByRecursion P xs → AllByRecursion P ys → AllByRecursion P (xs ++ ys)
all_append P [] ys one two = two
all_append P (x ∷ xs) ys one two = (one.0, all_append P xs ys one.1 two)

pub all_taken : {X : Type 0} (P : X → Type 0) (n : ℕ) (xs : List X) → AllByRecursion P xs → AllByRecursion P (take n xs)
all_taken P zero xs all = tt
all_taken P (suc n) [] all = tt
all_taken P (suc n) (x ∷ xs) all = (all.0, all_taken P n xs all.1)

decl_there : (here : Around) → AreSet here.lengths → AreShapes here.shapes → (decl : ShownDecl) → AreShapes (decl_shapes here decl)
decl_there here set all (OfType name part place) = (shape_there here set all part, tt)
decl_there here set all decl = tt

shapes_there : (names : List ScopeNames) (lengths : List DefaultLength) → AreSet lengths → (shapes : List (Option Shape)) (decls : List ShownDecl) →
    AreShapes shapes → AreShapes (shapes_after names lengths shapes decls)
shapes_there names lengths set shapes [] all = all
shapes_there names lengths set shapes (decl ∷ rest) all =
    let here : Around = record { scopes = names; lengths = lengths; shapes = shapes; scope = 0 } in
    shapes_there names lengths set (shapes ++ decl_shapes here decl) rest
    (all_append (IfSome HasBounds) shapes (decl_shapes here decl) all (decl_there here set all decl))

form_there : (bounds : Option (List (ℤ × ℤ))) (shape : Option Shape) → IfSome AreBounds bounds → IfSome HasBounds shape →
    HasSoundForm (sound_form bounds shape)
form_there None shape sound has = tt
form_there (Some bounds) None sound has = tt
form_there (Some bounds) (Some shape) sound has = by (list_all is_sound_leaf (leaves_of [] bounds shape)) refl
  where
    by : (test : Bool) → list_all is_sound_leaf (leaves_of [] bounds shape) ≡ test →
        HasSoundForm (if test then Some (record { bounds = bounds; shape = shape }) else None)
    by true is = record { bounds = sound; shape = has; leaves = is }
    by false is = tt

dation_there : (lengths : List DefaultLength) → AreSet lengths → (direction : Direction) (of : Class) → IsSoundSense (dation_sense lengths direction of)
dation_there lengths set direction (class.Alphic place) = tt
dation_there lengths set direction (class.Basic part place) = basic_there lengths set part

names_there : (lengths : List DefaultLength) → AreSet lengths → (basic : Basic) (ident : Bool) (names : List Name) (rest : List Parameter) →
    AllByRecursion (λ (parameter : Parameter). IsKindIf parameter.kind) rest →
    AllByRecursion (λ (parameter : Parameter). IsKindIf parameter.kind)
    (map (λ name. record { kind = kind_of_basic lengths basic; ident = ident }) names ++ rest)
names_there lengths set basic ident [] rest more = more
names_there lengths set basic ident (name ∷ names) rest more = (basic_there lengths set basic, names_there lengths set basic ident names rest more)

params_there : (lengths : List DefaultLength) → AreSet lengths → (params : List ShownParam) →
    AllByRecursion (λ (parameter : Parameter). IsKindIf parameter.kind) (flat_map (parameters_of lengths) params)
params_there lengths set [] = tt
params_there lengths set (param ∷ rest) =
    names_there lengths set param.basic param.ident (names_of param.names) (flat_map (parameters_of lengths) rest) (params_there lengths set rest)

result_there : (lengths : List DefaultLength) → AreSet lengths → (returns : Option Basic) → IsResultIf (option_map (kind_of_basic lengths) returns)
result_there lengths set None = tt
result_there lengths set (Some basic) = basic_there lengths set basic

sense_there : (known : Known) → AreSet known.lengths → AreShapes known.shapes → (scope : ℕ) (meaning : Meaning) → IsSoundSense (sense_of known scope meaning)
sense_there known set all scope (scopes.Variable item types) =
    let here = around known scope types in
    form_there (sound_bounds item.bounds) (shape_of here item.part) (bounds_there item.bounds)
    (shape_there here set (all_taken (IfSome HasBounds) types known.shapes all) item.part)
sense_there known set all scope (scopes.Control loop) = at_kind known.lengths set Fixed loop
sense_there known set all scope (scopes.Parameter part ident) = basic_there known.lengths set part
sense_there known set all scope (scopes.Dation direction of) = dation_there known.lengths set direction of
sense_there known set all scope (scopes.Procedure params returns) =
    (params_there known.lengths set params, result_there known.lengths set returns)
sense_there known set all scope meaning = tt

scope_there : (known : Known) → AreSet known.lengths → AreShapes known.shapes → (scope : ℕ) (entries : List Entry) →
    AllByRecursion IsSoundSense (senses_of known scope entries)
scope_there known set all scope [] = tt
scope_there known set all scope (entry ∷ rest) = (sense_there known set all scope entry.meaning, scope_there known set all scope rest)

scopes_there : (known : Known) → AreSet known.lengths → AreShapes known.shapes → (number : ℕ) (list : List Scope) (scope : ℕ) →
    AllByRecursion IsSoundSense (unwrap_or (slice_get (senses_in known number list) scope) [])
scopes_there known set all number [] scope = tt
scopes_there known set all number (first ∷ rest) zero = scope_there known set all number first.entries
scopes_there known set all number (first ∷ rest) (suc scope) = scopes_there known set all (number + 1) rest scope

pub senses_sound : (tree : ShownTree) (scope : ℕ) → AllByRecursion IsSoundSense (senses_at (table_of tree) scope)
senses_sound tree scope =
    scopes_there (known_of tree) (all_set tree.declarations)
    (shapes_there (names_of_scopes (scopes_of tree)) (lengths_set tree.declarations) (all_set tree.declarations) [] tree.declarations tt) 0 (scopes_of tree) scope
