-- Lists that are taken from above and turned round.
use Rattle.std.proofs.Common.{◌≡◌, ℕ, ◌≤◌, List, [], ◌∷◌, Option, Some, None, length, map, reverse, take, refl, sym, ap, ◌∙◌, subst, arith, Bool, true}
use Rattle.std.specs.Prelude.{option_map, option_and_then}
use Rattle.std.specs.List.{AllByRecursion, AllZip, list_all}
use Rattle.std.proofs.lemmas.List.{length-reverse, length-map, reverse-reverse}
use Rattle.std.proofs.lemmas.Option.{same_Some}
use mathlib.Core.List.{reverse_aux}
use Rattle.pearl_value.specs.declared.kind.Kind.{Kind}
use Rattle.pearl_value.specs.declared.kind.CellKind.TheVariants.{Plain, RefTo}
use Rattle.pearl_value.specs.declared.cell.Cell.{Cell}
use Rattle.pearl_value.specs.Cells.{kind_of}
use Rattle.pearl_value.specs.Kinds.{IsKind}
use Rattle.pearl_value.specs.WellFormed.{IsValue, IsValueOf}
use Rattle.pearl_instructions.specs.declared.object.Parts.{Parts as Object}
use Rattle.pearl_instructions.specs.Lawful.{IsCellKind}
use Rattle.pearl_instructions.specs.Offers.{value_kinds}
use Rattle.pearl_instructions.specs.Opcodes.{Exactly, scheduled}
use Rattle.pearl_instructions.specs.Operands.{Shape, same_cell, v2}
use Rattle.pearl_instructions.specs.Valid.{plain_kinds}
use Rattle.pearl_instructions.specs.Stacks.{Suits}
use Rattle.pearl_instructions.proofs.Tests.{and_true, same_cell_true}
use Rattle.pearl_instructions.proofs.SoundCells.{value_kind_is}

map_onto : {A B : Type 0} (f : A → B) (xs ys : List A) → map f (reverse_aux xs ys) ≡ reverse_aux (map f xs) (map f ys)
map_onto f [] ys = refl
map_onto f (x ∷ xs) ys = map_onto f xs (x ∷ ys)

pub map_reversed : {A B : Type 0} (f : A → B) (xs : List A) → map f (reverse xs) ≡ reverse (map f xs)
map_reversed f xs = map_onto f xs []

exactly_ends : (kinds : List Kind) (s : Shape) → v2 (map Exactly kinds) s ≡ true → (length kinds ≤ length s) × (take (length kinds) s ≡ map Plain kinds)
exactly_ends [] s e = (omega arith, refl)
exactly_ends (k ∷ kinds) [] e = cc
exactly_ends (k ∷ kinds) (a ∷ s) e =
    let both = and_true (same_cell (Plain k) a) (v2 (map Exactly kinds) s) e in
    let same : Plain k ≡ a = same_cell_true (Plain k) a both.0 in
    let more = exactly_ends kinds s both.1 in
    let less = more.0 in
    (omega (arith, less), ap (λ a. a ∷ take (length kinds) s) (sym same) ∙ ap (λ t. Plain k ∷ t) more.1)

-- values of a schedule, the one that was pushed first standing first
pub scheduled_ends : (kinds : List Kind) (s : Shape) → v2 (scheduled kinds) s ≡ true →
    (length kinds ≤ length s) × (reverse (take (length kinds) s) ≡ map Plain kinds)
scheduled_ends kinds s e =
    let turned : v2 (map Exactly (reverse kinds)) s ≡ true = ap (λ asked. v2 asked s) (map_reversed Exactly kinds) ∙ e in
    let ends = exactly_ends (reverse kinds) s turned in
    let long : length (reverse kinds) ≡ length kinds = length-reverse kinds in (
      subst (λ n. n ≤ length s) long ends.0,
      ap (λ n. reverse (take n s)) (sym long) ∙ (ap reverse ends.1 ∙ (ap reverse (map_reversed Plain kinds) ∙ reverse-reverse (map Plain kinds))),
    )

pub scheduled_long : (kinds : List Kind) → length (scheduled kinds) ≡ length kinds
scheduled_long kinds = length-reverse (map Exactly kinds) ∙ length-map kinds Exactly

mapped_is : (k : Kind) (rest : Option (List Kind)) (kinds : List Kind) → option_map (λ ks. k ∷ ks) rest ≡ Some kinds →
    (more : List Kind) × (rest ≡ Some more) × (k ∷ more ≡ kinds)
mapped_is k None kinds e = cc
mapped_is k (Some more) kinds e = (more, refl, same_Some (k ∷ more) kinds e)

-- the kinds of values that suit plain kinds
pub kinds_of_values : (o : Object) (rs : List ℕ) (s : Shape) (xs : List Cell) (kinds : List Kind) → plain_kinds s ≡ Some kinds → AllZip (Suits o rs) s xs →
    value_kinds xs ≡ Some kinds
kinds_of_values o rs [] [] kinds e z = e
kinds_of_values o rs [] (x ∷ xs) kinds e z = absurd z
kinds_of_values o rs (k ∷ s) [] kinds e z = absurd z
kinds_of_values o rs (RefTo k ∷ s) (x ∷ xs) kinds e z = cc
kinds_of_values o rs (Plain k ∷ s) (x ∷ xs) kinds e z =
    let m = mapped_is k (plain_kinds s) kinds e in
    ap (λ of. option_and_then (λ of. option_map (λ kinds. of ∷ kinds) (value_kinds xs)) of) (value_kind_is k x z.0)
    ∙ (ap (option_map (λ kinds. k ∷ kinds)) (kinds_of_values o rs s xs m.0 m.1 z.1) ∙ ap Some m.2)

-- values that suit kinds suit the plain cells of these kinds
pub values_suit_cells : (o : Object) (rs : List ℕ) (s : Shape) (kinds : List Kind) (xs : List Cell) → plain_kinds s ≡ Some kinds → AllZip IsValueOf kinds xs → AllZip (Suits o rs) s xs
values_suit_cells o rs [] [] [] e z = tt
values_suit_cells o rs [] [] (x ∷ xs) e z = absurd z
values_suit_cells o rs [] (k ∷ kinds) xs e z = cc
values_suit_cells o rs (RefTo k ∷ s) kinds xs e z = cc
values_suit_cells o rs (Plain k ∷ s) kinds [] e z =
    let m = mapped_is k (plain_kinds s) kinds e in
    absurd (subst (λ ks. AllZip IsValueOf ks []) (sym m.2) z)
values_suit_cells o rs (Plain k ∷ s) kinds (x ∷ xs) e z =
    let m = mapped_is k (plain_kinds s) kinds e in
    let both : AllZip IsValueOf (k ∷ m.0) (x ∷ xs) = subst (λ ks. AllZip IsValueOf ks (x ∷ xs)) (sym m.2) z in
    (both.0, values_suit_cells o rs s m.0 xs m.1 both.1)

-- and the other way round
pub values_of_kinds : (o : Object) (rs : List ℕ) (s : Shape) (kinds : List Kind) (xs : List Cell) → plain_kinds s ≡ Some kinds → AllZip (Suits o rs) s xs → AllZip IsValueOf kinds xs
values_of_kinds o rs [] [] [] e z = tt
values_of_kinds o rs [] kinds (x ∷ xs) e z = absurd z
values_of_kinds o rs [] (k ∷ kinds) [] e z = cc
values_of_kinds o rs (k ∷ s) kinds [] e z = absurd z
values_of_kinds o rs (RefTo k ∷ s) kinds (x ∷ xs) e z = cc
values_of_kinds o rs (Plain k ∷ s) kinds (x ∷ xs) e z =
    let m = mapped_is k (plain_kinds s) kinds e in
    subst (λ ks. AllZip IsValueOf ks (x ∷ xs)) m.2 (z.0, values_of_kinds o rs s m.0 xs m.1 z.1)

pub kinds_mapped : (kinds : List Kind) (xs : List Cell) → AllZip IsValueOf kinds xs → map kind_of xs ≡ kinds
kinds_mapped [] [] z = refl
kinds_mapped [] (x ∷ xs) z = absurd z
kinds_mapped (k ∷ kinds) [] z = absurd z
kinds_mapped (k ∷ kinds) (x ∷ xs) z = ap (λ k. k ∷ map kind_of xs) z.0.same_kind ∙ ap (λ ks. k ∷ ks) (kinds_mapped kinds xs z.1)

pub all_values : (kinds : List Kind) (xs : List Cell) → AllZip IsValueOf kinds xs → AllByRecursion IsValue xs
all_values [] [] z = tt
all_values [] (x ∷ xs) z = absurd z
all_values (k ∷ kinds) [] z = absurd z
all_values (k ∷ kinds) (x ∷ xs) z = (z.0.is_value, all_values kinds xs z.1)

-- plain cells are of kinds
pub are_kinds : (s : Shape) (kinds : List Kind) → plain_kinds s ≡ Some kinds → AllByRecursion IsCellKind s → AllByRecursion IsKind kinds
are_kinds [] [] e all = tt
are_kinds [] (k ∷ kinds) e all = cc
are_kinds (RefTo k ∷ s) kinds e all = cc
are_kinds (Plain k ∷ s) kinds e all =
    let m = mapped_is k (plain_kinds s) kinds e in
    subst (AllByRecursion IsKind) m.2 (all.0, are_kinds s m.0 m.1 all.1)

all_onto : {A : Type 0} (test : A → Bool) (xs ys : List A) → list_all test xs ≡ true → list_all test ys ≡ true → list_all test (reverse_aux xs ys) ≡ true
all_onto test [] ys e h = h
all_onto test (x ∷ xs) ys e h =
    let both = and_true (test x) (list_all test xs) e in
    let first = both.0 in
    all_onto test xs (x ∷ ys) both.1 (rw (first, h) refl)

-- what holds of all holds of all, turned round
pub all_reversed : {A : Type 0} (test : A → Bool) (xs : List A) → list_all test xs ≡ true → list_all test (reverse xs) ≡ true
all_reversed test xs e = all_onto test xs [] e refl
