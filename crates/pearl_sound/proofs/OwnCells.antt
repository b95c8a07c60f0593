-- The cells of a name lie from its number on.
use Rattle.std.specs.Prelude.{◌≡◌, ℕ, zero, suc, ◌+◌, ◌-◌, ◌≤◌, ◌<◌, List, [], ◌∷◌, ◌++◌, length, take, drop, Some, slice_get}
use Rattle.std.specs.List.{flat_map, sum_by}
use Rattle.std.proofs.Common.{refl, ap, ◌∙◌, sym, subst, arith}
use Rattle.std.proofs.Math.Seq.{drop-append-add}
use Rattle.std.proofs.lemmas.List.Sums.{sum_by-cons}
use Rattle.std.proofs.lemmas.Option.{none-some}
use Rattle.pearl_value.specs.declared.kind.CellKind.{CellKind}
use Rattle.pearl_names.specs.Tables.{Sense, Variable, Control, OwnParameter}
use Rattle.pearl_resolve.specs.Laying.{cells_of_sense}
use Rattle.pearl_resolve.specs.Numbers.{own_number, own_numbers}
use Rattle.pearl_resolve.specs.Cells.{sense_cells}
use Rattle.pearl_sound.specs.Laws.{IsNoControl}
use Rattle.pearl_sound.proofs.Going.{sense_length}
use Rattle.pearl_sound.proofs.SoundParts.{some_one}

front : (n : ℕ) (xs ys : List CellKind) → length xs ≡ n → take n (xs ++ ys) ≡ xs
front n xs ys is = subst (λ m. take m (xs ++ ys) ≡ xs) is (by xs)
  where
    by : (zs : List CellKind) → take (length zs) (zs ++ ys) ≡ zs
    by [] = refl
    by (z ∷ zs) = ap (λ rest. z ∷ rest) (by zs)

abbrev LiesAt : List Sense → ℕ → ℕ → Sense → Type 0
LiesAt senses from number sense =
    take (cells_of_sense sense) (drop (number - from) (flat_map sense_cells senses)) ≡ sense_cells sense

at_front : (sense : Sense) (rest : List Sense) (from number : ℕ) → from ≡ number → LiesAt (sense ∷ rest) from number sense
at_front sense rest from number is =
    let none : number - from ≡ 0 = omega (arith, is) in
    ap (λ n. take (cells_of_sense sense) (drop n (flat_map sense_cells (sense ∷ rest)))) none ∙
    front (cells_of_sense sense) (sense_cells sense) (flat_map sense_cells rest) (sense_length sense)

first_lies : (control from number : ℕ) (sense : Sense) (rest : List Sense) → own_number control from sense ≡ number →
    LiesAt (sense ∷ rest) from number sense
first_lies control from number (Variable form inv) rest is = at_front (Variable form inv) rest from number is
first_lies control from number (OwnParameter parameter) rest is = at_front (OwnParameter parameter) rest from number is
first_lies control from number sense rest is = refl

own_is : (control from number : ℕ) (sense : Sense) → IsNoControl sense → own_number control from sense ≡ number → from ≡ number
own_is control from number (Control kind) own is = absurd own
own_is control from number sense own is = is

not_before : (control from : ℕ) (senses : List Sense) (i number : ℕ) (sense : Sense) → slice_get senses i ≡ Some sense →
    IsNoControl sense → slice_get (own_numbers control from senses) i ≡ Some number → from ≤ number
not_before control from [] i number sense there own is = absurd (none-some sense there)
not_before control from (first ∷ rest) zero number sense there own is =
    let same = own_is control from number first (subst IsNoControl (sym (some_one there)) own) (some_one is) in omega (arith, same)
not_before control from (first ∷ rest) (suc i) number sense there own is =
    let more = not_before control (from + cells_of_sense first) rest i number sense there own is in omega (arith, more)

own_cells_lie : (control from : ℕ) (senses : List Sense) (i number : ℕ) (sense : Sense) → slice_get senses i ≡ Some sense →
    IsNoControl sense → slice_get (own_numbers control from senses) i ≡ Some number → LiesAt senses from number sense
own_cells_lie control from [] i number sense there own is = absurd (none-some sense there)
own_cells_lie control from (first ∷ rest) zero number sense there own is =
    subst (λ s. LiesAt (first ∷ rest) from number s) (some_one there) (first_lies control from number first rest (some_one is))
own_cells_lie control from (first ∷ rest) (suc i) number sense there own is =
    let low = not_before control (from + cells_of_sense first) rest i number sense there own is in
    let len = sense_length first in
    ap (λ n. take (cells_of_sense sense) (drop n (flat_map sense_cells (first ∷ rest))))
    (apart from number (cells_of_sense first) (length (sense_cells first)) len low) ∙
    (ap (λ cells. take (cells_of_sense sense) cells)
    (drop-append-add (sense_cells first) (flat_map sense_cells rest) (number - (from + cells_of_sense first))) ∙
    own_cells_lie control (from + cells_of_sense first) rest i number sense there own is)
  where
    apart : (from number n m : ℕ) → m ≡ n → from + n ≤ number → number - from ≡ m + (number - (from + n))
    apart from number n m same low = omega (arith, same, low)

pub cells_apart : (control from : ℕ) (senses : List Sense) (i j first second : ℕ) (one two : Sense) → i < j →
    slice_get senses i ≡ Some one → IsNoControl one → slice_get (own_numbers control from senses) i ≡ Some first →
    slice_get senses j ≡ Some two → IsNoControl two → slice_get (own_numbers control from senses) j ≡ Some second →
    (from ≤ first) × (first + cells_of_sense one ≤ second)
cells_apart control from [] i j first second one two less there own is other also at = absurd (none-some one there)
cells_apart control from (head ∷ rest) i zero first second one two less there own is other also at = absurd (omega (arith, less))
cells_apart control from (head ∷ rest) zero (suc j) first second one two less there own is other also at =
    let same = own_is control from first head (subst IsNoControl (sym (some_one there)) own) (some_one is) in
    let cells = ap cells_of_sense (some_one there) in
    let low = not_before control (from + cells_of_sense head) rest j second two other also at in
    (omega (arith, same), omega (arith, same, cells, low))
cells_apart control from (head ∷ rest) (suc i) (suc j) first second one two less there own is other also at =
    let behind = cells_apart control (from + cells_of_sense head) rest i j first second one two (omega (arith, less)) there own is other also at in
    let low = behind.0 in (omega (arith, low), behind.1)

pub not_beyond : (control from : ℕ) (senses : List Sense) (i number : ℕ) (sense : Sense) → slice_get senses i ≡ Some sense →
    IsNoControl sense → slice_get (own_numbers control from senses) i ≡ Some number →
    number + cells_of_sense sense ≤ from + sum_by cells_of_sense senses
not_beyond control from [] i number sense there own is = absurd (none-some sense there)
not_beyond control from (first ∷ rest) zero number sense there own is =
    let same = own_is control from number first (subst IsNoControl (sym (some_one there)) own) (some_one is) in
    let cells = ap cells_of_sense (some_one there) in
    let sum = sum_by-cons cells_of_sense first rest in
    omega (arith, same, cells, sum)
not_beyond control from (first ∷ rest) (suc i) number sense there own is =
    let more = not_beyond control (from + cells_of_sense first) rest i number sense there own is in
    let sum = sum_by-cons cells_of_sense first rest in
    omega (arith, more, sum)

pub own_cells_there : (control from : ℕ) (senses : List Sense) (i number : ℕ) (sense : Sense) → slice_get senses i ≡ Some sense →
    IsNoControl sense → slice_get (own_numbers control from senses) i ≡ Some number →
    (from ≤ number) × (number + cells_of_sense sense ≤ from + sum_by cells_of_sense senses) × LiesAt senses from number sense
own_cells_there control from senses i number sense there own is = (
  not_before control from senses i number sense there own is,
  not_beyond control from senses i number sense there own is,
  own_cells_lie control from senses i number sense there own is,
)
