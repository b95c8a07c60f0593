-- How far the kinds of cells go on: what holds of a range, and how the tables are made.
use Rattle.std.proofs.Common.{◌≡◌, ℕ, zero, suc, ◌+◌, ◌-◌, ◌<◌, ◌≤◌, List, [], ◌∷◌, Option, Some, None, length, take, drop, get_or, set, slice_get, refl, sym, ap, ◌∙◌, arith, Bool, true, false, length-drop}
use Rattle.std.specs.Prelude.{◌&&◌, not, nat_le, min, if◌then◌else◌}
use Rattle.std.specs.List.{list_all}
use Rattle.std.proofs.Math.Dec.{leb-zero, leb-suc-suc, leb-suc-zero}
use Rattle.std.proofs.lemmas.List.{drop_more, drop-set}
use Rattle.std.proofs.Math.ListN.{drop_of_length-le}
use Rattle.std.proofs.lemmas.Option.{same_Some}
use Rattle.pearl_value.specs.declared.kind.Kind.TheVariants as kind
use Rattle.pearl_value.specs.declared.kind.CellKind.{CellKind}
use Rattle.pearl_value.specs.declared.kind.CellKind.TheVariants.{Plain}
use Rattle.pearl_instructions.specs.Operands.{same_cell, is_reference}
use Rattle.pearl_instructions.specs.Kinds.{is_uniform}
use Rattle.pearl_verify.specs.Runs.{alike, uniform_front, value_front, from_each, covered, covers}

none_needed : (m n front : ℕ) → n ≡ 0 → true ≡ nat_le (min m n) front
none_needed m n front e = let none : min m n ≡ 0 = omega (arith, e) in sym (ap (λ k. nat_le k front) none ∙ leb-zero front)

one_more : (b : Bool) (m l n front : ℕ) (rest : Bool) → m ≡ suc (min l n) → rest ≡ nat_le (min l n) front → (b && rest) ≡ nat_le m (if b then suc front else 0)
one_more true m l n front rest h e = e ∙ sym (ap (λ k. nat_le k (suc front)) h ∙ leb-suc-suc (min l n) front)
one_more false m l n front rest h e = sym (ap (λ k. nat_le k 0) h ∙ leb-suc-zero (min l n))

alike_all : (k : CellKind) (n : ℕ) (ks : List CellKind) → list_all (same_cell k) (take n ks) ≡ nat_le (min (length ks) n) (alike k ks)
alike_all k zero ks = none_needed (length ks) 0 (alike k ks) refl
alike_all k (suc n) [] = let none : min 0 (suc n) ≡ 0 = omega arith in sym (ap (λ m. nat_le m 0) none ∙ leb-zero 0)
alike_all k (suc n) (x ∷ ks) =
    one_more (same_cell k x) (min (suc (length ks)) (suc n)) (length ks) n (alike k ks) (list_all (same_cell k) (take n ks)) (omega arith) (alike_all k n ks)

-- the first n have one kind exactly where the front is so long
uniform_is : (n : ℕ) (ks : List CellKind) → is_uniform (take n ks) ≡ nat_le (min (length ks) n) (uniform_front ks)
uniform_is zero ks = none_needed (length ks) 0 (uniform_front ks) refl
uniform_is (suc n) [] = let none : min 0 (suc n) ≡ 0 = omega arith in sym (ap (λ m. nat_le m 0) none ∙ leb-zero 0)
uniform_is (suc n) (k ∷ ks) =
    one_more true (min (suc (length ks)) (suc n)) (length ks) n (alike k ks) (list_all (same_cell k) (take n ks)) (omega arith) (alike_all k n ks)

one_less : (b : Bool) (m l n front : ℕ) (rest : Bool) → m ≡ suc (min l n) → rest ≡ nat_le (min l n) front → (not b && rest) ≡ nat_le m (if b then 0 else suc front)
one_less false m l n front rest h e = e ∙ sym (ap (λ k. nat_le k (suc front)) h ∙ leb-suc-suc (min l n) front)
one_less true m l n front rest h e = sym (ap (λ k. nat_le k 0) h ∙ leb-suc-zero (min l n))

-- the first n are no references exactly where the front is so long
values_is : (n : ℕ) (ks : List CellKind) → list_all (λ k. not (is_reference k)) (take n ks) ≡ nat_le (min (length ks) n) (value_front ks)
values_is zero ks = none_needed (length ks) 0 (value_front ks) refl
values_is (suc n) [] = let none : min 0 (suc n) ≡ 0 = omega arith in sym (ap (λ m. nat_le m 0) none ∙ leb-zero 0)
values_is (suc n) (k ∷ ks) =
    one_less (is_reference k) (min (suc (length ks)) (suc n)) (length ks) n (value_front ks) (list_all (λ k. not (is_reference k)) (take n ks)) (omega arith) (values_is n ks)

each_at : (f : List CellKind → ℕ) (ks : List CellKind) (n v : ℕ) → slice_get (from_each f ks) n ≡ Some v → v ≡ f (drop n ks)
each_at f [] n v e = cc
each_at f (k ∷ ks) zero v e = sym (same_Some (f (k ∷ ks)) v e)
each_at f (k ∷ ks) (suc n) v e = each_at f ks n v e

each_none : (f : List CellKind → ℕ) (ks : List CellKind) (n : ℕ) → slice_get (from_each f ks) n ≡ None → drop n ks ≡ []
each_none f [] zero e = refl
each_none f [] (suc n) e = refl
each_none f (k ∷ ks) zero e = cc
each_none f (k ∷ ks) (suc n) e = each_none f ks n e

each_long : (f : List CellKind → ℕ) (ks : List CellKind) → length (from_each f ks) ≡ length ks
each_long f [] = refl
each_long f (k ∷ ks) = ap suc (each_long f ks)

take_none : {A : Type 0} (n : ℕ) → take {A = A} n [] ≡ []
take_none zero = refl
take_none (suc n) = refl

-- a test that asks for a front answers for each range
covered_is : (f : List CellKind → ℕ) (test : List CellKind → Bool) → ((n : ℕ) (ks : List CellKind) → test (take n ks) ≡ nat_le (min (length ks) n) (f ks)) → test [] ≡ true →
    (cells : List CellKind) (first count : ℕ) (o : Option ℕ) → slice_get (from_each f cells) first ≡ o →
    covered (length (from_each f cells) - first) count o ≡ test (take count (drop first cells))
covered_is f test is empty cells first count None e =
    sym (ap (λ ks. test (take count ks)) (each_none f cells first e) ∙ ap test (take_none count) ∙ empty)
covered_is f test is empty cells first count (Some front) e =
    let long : length (from_each f cells) - first ≡ length (drop first cells) = ap (λ n. n - first) (each_long f cells) ∙ sym (length-drop first cells) in
    let at : front ≡ f (drop first cells) = each_at f cells first front e in
    ap (λ n. nat_le (min n count) front) long ∙ ap (nat_le (min (length (drop first cells)) count)) at ∙ sym (is count (drop first cells))

pub covers_uniform : (cells : List CellKind) (first count : ℕ) → covers (from_each uniform_front cells) first count ≡ is_uniform (take count (drop first cells))
covers_uniform cells first count = covered_is uniform_front is_uniform uniform_is refl cells first count (slice_get (from_each uniform_front cells) first) refl

pub covers_values : (cells : List CellKind) (first count : ℕ) →
    covers (from_each value_front cells) first count ≡ list_all (λ k. not (is_reference k)) (take count (drop first cells))
covers_values cells first count =
    covered_is value_front (list_all (λ k. not (is_reference k))) values_is refl cells first count (slice_get (from_each value_front cells) first) refl

-- one more cell
abbrev some_kind : CellKind
some_kind = Plain kind.Clock

pub each_more : (f : List CellKind → ℕ) (cells : List CellKind) (fronts : List ℕ) (n v : ℕ) → n < length cells → length fronts ≡ length cells →
    drop (n + 1) fronts ≡ from_each f (drop (n + 1) cells) → v ≡ f (drop n cells) → drop n (set fronts n v) ≡ from_each f (drop n cells)
each_more f cells fronts n v less long behind is =
    let cut : drop n cells ≡ get_or cells n some_kind ∷ drop (n + 1) cells = drop_more cells n some_kind less in
    let here : v ≡ f (get_or cells n some_kind ∷ drop (n + 1) cells) = is ∙ ap f cut in
    drop-set fronts n v (omega (arith, less, long))
    ∙ ap (λ rest. v ∷ rest) behind
    ∙ ap (λ w. w ∷ from_each f (drop (n + 1) cells)) here
    ∙ sym (ap (from_each f) cut)

pub front_of_last : (cells : List CellKind) (n : ℕ) → n < length cells → length cells ≤ n + 1 → 1 ≡ uniform_front (drop n cells)
front_of_last cells n less last =
    let a : drop n cells ≡ get_or cells n some_kind ∷ drop (n + 1) cells = drop_more cells n some_kind less in
    sym (ap uniform_front (a ∙ ap (λ ks. get_or cells n some_kind ∷ ks) (drop_of_length-le cells last)))
