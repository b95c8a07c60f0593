-- Ranges of a routine's cells, and lists that are written in part.
use Rattle.std.proofs.Common.{◌≡◌, ℕ, zero, suc, ◌+◌, ◌<◌, ◌≤◌, List, [], ◌∷◌, ◌++◌, Some, length, take, drop, replicate, slice_get, refl, sym, ap, ◌∙◌, subst, arith, Bool, true, ltb-true, leb-true}
use Rattle.std.specs.Prelude.{not, nat_lt, nat_le}
use Rattle.std.specs.List.{AllZip, list_all}
use Rattle.std.proofs.lemmas.Option.{same_Some}
use Rattle.pearl_value.specs.declared.kind.Kind.{Kind}
use Rattle.pearl_value.specs.declared.kind.CellKind.{CellKind}
use Rattle.pearl_value.specs.declared.kind.CellKind.TheVariants.{Plain, RefTo}
use Rattle.pearl_instructions.specs.declared.object.Code.{Code}
use Rattle.pearl_instructions.specs.Operands.{same_cell, is_reference}
use Rattle.pearl_instructions.specs.Named.{has_cells, cells_at}
use Rattle.pearl_instructions.specs.Kinds.{is_uniform, first_kind}
use Rattle.pearl_instructions.proofs.Tests.{and_true, same_cell_true, all_at}
use Rattle.pearl_instructions.proofs.Zips.{some_at}

pub take_at : {A : Type 0} (xs : List A) (n i : ℕ) → i < n → slice_get (take n xs) i ≡ slice_get xs i
take_at xs zero i less = absurd (omega (arith, less))
take_at [] (suc n) i less = refl
take_at (x ∷ xs) (suc n) zero less = refl
take_at (x ∷ xs) (suc n) (suc i) less = take_at xs n i (omega (arith, less))

pub drop_at : {A : Type 0} (xs : List A) (c i m : ℕ) → m ≡ c + i → slice_get (drop c xs) i ≡ slice_get xs m
drop_at xs zero i m e = ap (slice_get xs) (omega (arith, e))
drop_at [] (suc c) i m e = refl
drop_at (x ∷ xs) (suc c) i zero e = absurd (omega (arith, e))
drop_at (x ∷ xs) (suc c) i (suc m) e = drop_at xs c i m (omega (arith, e))

-- place i of the range from c on is place c + i
pub range_at : {A : Type 0} (xs : List A) (c n i m : ℕ) → m ≡ c + i → i < n → slice_get (take n (drop c xs)) i ≡ slice_get xs m
range_at xs c n i m e less = take_at (drop c xs) n i less ∙ drop_at xs c i m e

pub all_front : {A : Type 0} (test : A → Bool) (xs ys : List A) → list_all test (xs ++ ys) ≡ true → list_all test xs ≡ true
all_front test [] ys e = refl
all_front test (x ∷ xs) ys e =
    let both = and_true (test x) (list_all test (xs ++ ys)) e in
    let more = all_front test xs ys both.1 in
    rw (both.0, more) refl

pub all_behind : {A : Type 0} (test : A → Bool) (xs ys : List A) → list_all test (xs ++ ys) ≡ true → list_all test ys ≡ true
all_behind test [] ys e = e
all_behind test (x ∷ xs) ys e = all_behind test xs ys (and_true (test x) (list_all test (xs ++ ys)) e).1

uniform_at : (ks : List CellKind) (first k : CellKind) (i : ℕ) → is_uniform ks ≡ true → slice_get ks 0 ≡ Some first → slice_get ks i ≡ Some k → first ≡ k
uniform_at [] first k i e h g = cc
uniform_at (a ∷ ks) first k zero e h g = sym (same_Some a first h) ∙ same_Some a k g
uniform_at (a ∷ ks) first k (suc i) e h g = sym (same_Some a first h) ∙ same_cell_true a k (all_at (same_cell a) ks i k e g)

plain_is : (k : CellKind) → not (is_reference k) ≡ true → (kind : Kind) × (k ≡ Plain kind)
plain_is (Plain kind) e = (kind, refl)
plain_is (RefTo kind) e = cc

-- n cells from c on, which all have one kind
pub record Range (code : Code) (c n : ℕ) : Type 0 where
  pub kind : Kind
  pub first : slice_get code.cells c ≡ Some (Plain kind)
  pub head : first_kind (cells_at code c n) ≡ Some (Plain kind)
  pub each : (i m : ℕ) → m ≡ c + i → i < n → slice_get code.cells m ≡ Some (Plain kind)
  pub within : c + n ≤ length code.cells

pub range_is : (code : Code) (c n : ℕ) → has_cells code c n ≡ true → is_uniform (cells_at code c n) ≡ true →
    list_all (λ k. not (is_reference k)) (cells_at code c n) ≡ true → Range code c n
range_is code c n has uniform plain =
    let both = and_true (nat_lt 0 n) (nat_le (c + n) (length code.cells)) has in
    let some : 0 < n = ltb-true 0 n both.0 in
    let long : c + n ≤ length code.cells = leb-true (c + n) (length code.cells) both.1 in
    let held = some_at code.cells c (omega (arith, some, long)) in
    let head : slice_get (cells_at code c n) 0 ≡ Some held.0 = range_at code.cells c n 0 c (omega arith) some ∙ held.1 in
    let kind = plain_is held.0 (all_at (λ k. not (is_reference k)) (cells_at code c n) 0 held.0 plain head) in
    record {
      kind = kind.0;
      first = held.1 ∙ ap Some kind.1;
      head = head ∙ ap Some kind.1;
      within = long;
      each = λ i m e less.
          let there = some_at code.cells m (omega (arith, e, less, long)) in
          let at : slice_get (cells_at code c n) i ≡ Some there.0 = range_at code.cells c n i m e less ∙ there.1 in
          there.1 ∙ ap Some (sym (uniform_at (cells_at code c n) held.0 there.0 i uniform head at) ∙ kind.1);
    }

-- the places from c on are one value that suits them
pub zip_fill : {A B : Type 0} (R : A → B → Type 0) (ks : List A) (xs : List B) (c n m : ℕ) (k : A) (x : B) → m ≡ c + n → c + n ≤ length ks →
    ((i j : ℕ) → j ≡ c + i → i < n → slice_get ks j ≡ Some k) → R k x → AllZip R ks xs → AllZip R ks (take c xs ++ replicate n x ++ drop m xs)
zip_fill R ks xs zero zero zero k x e long each r z = z
zip_fill R ks xs zero zero (suc m) k x e long each r z = absurd (omega (arith, e))
zip_fill R ks xs zero (suc n) zero k x e long each r z = absurd (omega (arith, e))
zip_fill R [] xs zero (suc n) (suc m) k x e long each r z = absurd (omega (arith, long))
zip_fill R (a ∷ ks) [] zero (suc n) (suc m) k x e long each r z = absurd z
zip_fill R (a ∷ ks) (y ∷ xs) zero (suc n) (suc m) k x e long each r z = (
  subst (λ a. R a x) (sym (same_Some a k (each 0 0 (omega arith) (omega arith)))) r,
  zip_fill R ks xs zero n m k x (omega (arith, e)) (omega (arith, long)) (λ i j same less. each (suc i) (suc j) (omega (arith, same)) (omega (arith, less))) r z.1,
)
zip_fill R [] [] (suc c) n m k x e long each r z = absurd (omega (arith, long))
zip_fill R [] (y ∷ xs) (suc c) n m k x e long each r z = absurd z
zip_fill R (a ∷ ks) [] (suc c) n m k x e long each r z = absurd z
zip_fill R (a ∷ ks) (y ∷ xs) (suc c) n zero k x e long each r z = absurd (omega (arith, e))
zip_fill R (a ∷ ks) (y ∷ xs) (suc c) n (suc m) k x e long each r z =
    (z.0, zip_fill R ks xs c n m k x (omega (arith, e)) (omega (arith, long)) (λ i j same less. each i (suc j) (omega (arith, same)) less) r z.1)

-- the places from c on are values that suit them, one by one
pub zip_put : {A B : Type 0} (R : A → B → Type 0) (ks : List A) (xs ys : List B) (c m : ℕ) → m ≡ c + length ys → c + length ys ≤ length ks →
    AllZip R (take (length ys) (drop c ks)) ys → AllZip R ks xs → AllZip R ks (take c xs ++ ys ++ drop m xs)
zip_put R ks xs [] zero zero e long w z = z
zip_put R ks xs [] zero (suc m) e long w z = absurd (omega (arith, e))
zip_put R ks xs (y ∷ ys) zero zero e long w z = absurd (omega (arith, e))
zip_put R [] xs (y ∷ ys) zero (suc m) e long w z = absurd (omega (arith, long))
zip_put R (a ∷ ks) [] (y ∷ ys) zero (suc m) e long w z = absurd z
zip_put R (a ∷ ks) (x ∷ xs) (y ∷ ys) zero (suc m) e long w z = (w.0, zip_put R ks xs ys zero m (omega (arith, e)) (omega (arith, long)) w.1 z.1)
zip_put R [] [] ys (suc c) m e long w z = absurd (omega (arith, long))
zip_put R [] (x ∷ xs) ys (suc c) m e long w z = absurd z
zip_put R (a ∷ ks) [] ys (suc c) m e long w z = absurd z
zip_put R (a ∷ ks) (x ∷ xs) ys (suc c) zero e long w z = absurd (omega (arith, e))
zip_put R (a ∷ ks) (x ∷ xs) ys (suc c) (suc m) e long w z = (z.0, zip_put R ks xs ys c m (omega (arith, e)) (omega (arith, long)) w z.1)
