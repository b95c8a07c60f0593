-- Literals of lawful trees are values of the kinds that they have.
use Rattle.std.specs.Prelude.{◌≡◌, ℕ, ◌≤◌, ◌<◌, ◌^◌, pos, nat_le, Bool, true, false, if◌then◌else◌, List, [], ◌∷◌, ◌++◌, Some, None}
use Rattle.std.specs.List.{AllByRecursion}
use Rattle.std.proofs.Common.{refl, sym, subst, arith, true≢false}
use Rattle.std.proofs.lemmas.Int.{ints}
use Rattle.std.proofs.lemmas.Option.{none-some}
use Rattle.std.proofs.lemmas.Bool.{leb-true, ltb-false}
use Rattle.pearl_value.specs.declared.kind.Kind.TheVariants as kind
use Rattle.pearl_value.specs.declared.cell.Cell.TheVariants.{Fixed as FixedCell}
use Rattle.pearl_value.specs.WellFormed.{IsValueOf}
use Rattle.pearl_value.specs.Conversions.{fits_fixed}
use Rattle.pearl_tree.specs.declared.typing.Sort.{Sort}
use Rattle.pearl_tree.specs.declared.typing.Sort.TheVariants.{Fixed, Bit, Char}
use Rattle.pearl_tree.specs.declared.literal.Literal.{Literal}
use Rattle.pearl_tree.specs.declared.literal.Literal.TheVariants as literal
use Rattle.pearl_tree.specs.Durations.{milliseconds_of}
use Rattle.pearl_tree.specs.Lawful.{IsLawfulLiteral}
use Rattle.pearl_tree.specs.ShownLiterals.{shown_literal, OfDuration}
use Rattle.pearl_tree.specs.ShownModules.{ShownDecl, OfLength}
use Rattle.pearl_names.specs.declared.length.DefaultLength.{DefaultLength}
use Rattle.pearl_names.specs.Durations.{is_too_long}
use Rattle.pearl_names.specs.Lengths.{is_length, is_same_sort, length_set, lengths_set, holds_at, last_length, length_at}
use Rattle.pearl_check_expr.specs.Literals.{fixed_length}
use Rattle.pearl_resolve.specs.Expressions.{literal_cell}
use Rattle.pearl_sound.specs.SoundNames.{IsLiteral}
use Rattle.pearl_sound.proofs.Subscripting.{both}
use Rattle.pearl_sound.proofs.SoundParts.{some_one}

abbrev pub IsSet : DefaultLength → Type 0
IsSet default = is_length default.sort default.len ≡ true

abbrev IsFixedLength : ℕ → Type 0
IsFixedLength len = (0 < len) × (len ≤ 63)

fixed_set : (default : DefaultLength) (place : ℕ) → IsSet default → holds_at default Fixed place ≡ true → IsFixedLength default.len
fixed_set default place set holds = by default.sort default.len set (both (is_same_sort default.sort Fixed) (nat_le default.place place) holds).0
  where
    by : (sort : Sort) (len : ℕ) → is_length sort len ≡ true → is_same_sort sort Fixed ≡ true → IsFixedLength len
    by Fixed len set same =
        let tests = both (nat_le 1 len) (nat_le len 63) set in
        let low = leb-true 1 len tests.0 in (omega (arith, low), leb-true len 63 tests.1)
    by Bit len set same = absurd (true≢false (sym same))
    by Char len set same = absurd (true≢false (sym same))

last_fixed : (lengths : List DefaultLength) (len place : ℕ) → AllByRecursion IsSet lengths → IsFixedLength len →
    IsFixedLength (last_length len lengths Fixed place)
last_fixed [] len place set is = is
last_fixed (default ∷ rest) len place set is =
    last_fixed rest (if holds_at default Fixed place then default.len else len) place set.1 (by (holds_at default Fixed place) refl)
  where
    by : (holds : Bool) → holds_at default Fixed place ≡ holds → IsFixedLength (if holds then default.len else len)
    by true e = fixed_set default place set.0 e
    by false e = is

set_both : (xs ys : List DefaultLength) → AllByRecursion IsSet xs → AllByRecursion IsSet ys → AllByRecursion IsSet (xs ++ ys)
set_both [] ys a b = b
set_both (x ∷ xs) ys a b = (a.0, set_both xs ys a.1 b)

decl_set : (decl : ShownDecl) → AllByRecursion IsSet (length_set decl)
decl_set (OfLength sort number place) = by (is_length sort number.value) refl
  where
    by : (test : Bool) → is_length sort number.value ≡ test →
        AllByRecursion IsSet (if test then record { place = place; sort = sort; len = number.value } ∷ [] else [])
    by true e = (e, tt)
    by false e = tt
decl_set decl = tt

pub all_set : (declarations : List ShownDecl) → AllByRecursion IsSet (lengths_set declarations)
all_set [] = tt
all_set (decl ∷ rest) = set_both (length_set decl) (lengths_set rest) (decl_set decl) (all_set rest)

number_gives : (len value : ℕ) → IsFixedLength len → value < 2 ^ 63 →
    IsValueOf (kind.Fixed (fixed_length len value)) (FixedCell (fixed_length len value) (pos value))
number_gives len value is small = by (fits_fixed len (pos value)) refl
  where
    by : (fits : Bool) → fits_fixed len (pos value) ≡ fits →
        IsValueOf (kind.Fixed (if fits then len else 63)) (FixedCell (if fits then len else 63) (pos value))
    by true e = record { is_value = (is, record { low = grind (arith, ints); high = grind (arith, ints) }); same_kind = refl }
    by false e = record { is_value = ((omega arith, omega arith), record { low = omega (arith, ints); high = omega (arith, ints, small) }); same_kind = refl }

pub literals : (declarations : List ShownDecl) (part : Literal) → IsLawfulLiteral part →
    IsLiteral (lengths_set declarations) (shown_literal part)
literals declarations (literal.Number number) lawful of is =
    subst (λ k. IsValueOf k (literal_cell (lengths_set declarations) (shown_literal (literal.Number number)))) (some_one is)
    (number_gives (length_at (lengths_set declarations) Fixed number.place) number.value
    (last_fixed (lengths_set declarations) 31 number.place (all_set declarations) (omega arith, omega arith)) lawful)
literals declarations (literal.Clock milliseconds place) lawful of is = record { is_value = lawful; same_kind = some_one is }
literals declarations (literal.Duration duration) lawful of is = by (is_too_long duration.value) refl is
  where
    by : (long : Bool) → is_too_long duration.value ≡ long → (if long then None else Some kind.Span) ≡ Some of →
        IsValueOf of (literal_cell (lengths_set declarations) (OfDuration duration.value))
    by true e is = absurd (none-some of is)
    by false e is =
        let most = ltb-false (2 ^ 40) (milliseconds_of duration.value) e in
        record { is_value = record { low = omega (arith, ints); high = omega (arith, ints, most) }; same_kind = some_one is }
literals declarations other lawful of is =
    record { is_value = ((omega (arith, lawful), lawful.1), lawful.2); same_kind = some_one is }
